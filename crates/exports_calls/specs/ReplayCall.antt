-- replay over numbers and slices: replay_of, and an answer of three words.
use Rattle.std.specs.Prelude.{ℕ, List, [], ◌∷◌, length, eqb}
use Rattle.choices.specs.Choice.{cond}
use Rattle.machine.specs.Ram.{Cells}
use Rattle.replay.specs.Replay.{Replayed, replay_of}

-- the number that the call gives, and its slices behind it
pub record Replied : Type 0 where
  pub number : ℕ
  pub answer : List ℕ
  pub words : List ℕ
  pub addresses : List ℕ
  pub values : List ℕ

abbrev pub replied : ℕ → List ℕ → List ℕ → List ℕ → List ℕ → Replied
replied n a s addresses values = record { number = n; answer = a; words = s; addresses = addresses; values = values }

-- number, depth and cell count
abbrev pub replay_gives : Replayed → Replied
replay_gives r = replied r.number (r.number ∷ r.depth ∷ r.count ∷ []) r.words r.addresses r.values

-- a log of revision v up to clock j; an answer a of another length gives 1, and nothing lent is changed
unfoldable pub replay_call : List ℕ → List ℕ → ℕ → ℕ → Cells → List ℕ → Replied
replay_call a log v j c s = cond (eqb (length a) 3) (replay_gives (replay_of v log c s j)) (replied 1 a s c.addresses c.values)
