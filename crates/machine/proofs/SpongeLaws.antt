-- The machine's sponge instructions are Tip5's own: what they make of the sponge is what init, absorb and squeeze make of it, and what sponge_squeeze puts
-- on the stack is what squeeze gives out. Assumes nothing.
use mathlib.Core.Path.{◌≡◌, refl, sym}
use mathlib.Core.Bool.{true}
use mathlib.Core.List.{List, ◌∷◌, ◌++◌}
use Prim.Native.Nat.{ℕ, zero, suc, ◌≤◌}
use native.Mathlib.Omega.{arith}
use lib.ListN.{length, drop, take, replicate, length-append, length-drop}
use lib.Seq.{get_or-take}
use Rattle.tip5.specs.declared.sponge.Sponge.{Sponge}
use Rattle.tip5.specs.declared.sponge.Domain.TheVariants.{VariableLength}
use Rattle.tip5.specs.Permutation.{trace_of}
use Rattle.tip5.specs.Sponge.{new_of, absorb_of, squeeze_of}
use Rattle.tip5.proofs.permutation.Laws.{trace-last}
use Rattle.machine.specs.Effect.{becomes}
use Rattle.machine.specs.Hashing.{overwritten, reversed, sponged}

-- sponge_init
pub init_is : (becomes (record { words = replicate 16 0; set = true })) ≡ becomes (new_of VariableLength)
init_is = refl

-- sponge_absorb, and sponge_absorb_mem
pub absorb_is : (s : Sponge) (ten : List ℕ) → length s.words ≡ 16 → length ten ≡ 10 → s.set ≡ true → sponged (trace_of (overwritten s ten)) ≡ becomes (absorb_of s ten)
absorb_is s ten h k on =
    let n : length (ten ++ drop 10 s.words) ≡ 16 = simp (length-append, length-drop) (omega arith) in
    λ d. becomes (record { words = trace-last (ten ++ drop 10 s.words) n d; set = sym on d })

-- sponge_squeeze: the sponge, and the words put on
pub squeeze_is : (s : Sponge) → length s.words ≡ 16 → s.set ≡ true → sponged (trace_of s.words) ≡ becomes (squeeze_of s).sponge
squeeze_is s h on = λ d. becomes (record { words = trace-last s.words h d; set = sym on d })

reversed-take : (s : List ℕ) (n k : ℕ) → n ≤ k → reversed s n ≡ reversed (take k s) n
unfolding reversed
reversed-take s zero k h = refl
reversed-take s (suc n) k h = λ d. sym (get_or-take k s n 0 (omega arith)) d ∷ reversed-take s n k (omega arith) d

pub squeezes : (s : Sponge) → reversed s.words 10 ≡ reversed (squeeze_of s).words 10
squeezes s = reversed-take s.words 10 10 (omega arith)
