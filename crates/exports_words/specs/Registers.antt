-- The registers as a slice of 28 words: src/lib.rt names them.
use Rattle.std.specs.Prelude.{ℕ, ◌<◌, ◌≡◌, Bool, false, List, [], ◌∷◌, ◌++◌, length, get_or, take, drop, eqb, ltb}
use Rattle.machine.specs.declared.state.VMState.{VMState}
use Rattle.choices.specs.Choice.{cond}

-- a mark as a word
abbrev pub mark : Bool → ℕ
mark t = cond t 1 0

unfoldable pub registers_of : VMState → List ℕ
registers_of s =
    s.clock ∷ s.pointer ∷ s.depth ∷ s.jumps ∷ s.cells ∷ s.outputs ∷ s.publics ∷ s.secrets ∷ s.digests ∷
    mark s.halted ∷ mark s.sponge.set ∷ s.sponge.words ++ (s.revision ∷ [])

unfoldable pub state_of : List ℕ → VMState
state_of w =
    record {
      clock = get_or w 0 0;
      pointer = get_or w 1 0;
      depth = get_or w 2 0;
      jumps = get_or w 3 0;
      cells = get_or w 4 0;
      outputs = get_or w 5 0;
      publics = get_or w 6 0;
      secrets = get_or w 7 0;
      digests = get_or w 8 0;
      sponge = record { words = take 16 (drop 11 w); set = eqb (get_or w 10 0) 1 };
      halted = eqb (get_or w 9 0) 1;
      revision = get_or w 27 0;
    }

-- it stands for a state
pub record Readable (w : List ℕ) : Type 0 where
  pub long : length w ≡ 28
  pub clock : get_or w 0 0 < 4294967296
  pub halted : get_or w 9 0 < 2
  pub set : get_or w 10 0 < 2

-- the same as a test: 28 words, a clock of 32 bits, and marks that are 0 or 1
unfoldable pub readable_of : List ℕ → Bool
readable_of w =
    cond (eqb (length w) 28)
    (cond (ltb (get_or w 0 0) 4294967296)
    (cond (ltb (get_or w 9 0) 2) (ltb (get_or w 10 0) 2) false)
    false)
    false
