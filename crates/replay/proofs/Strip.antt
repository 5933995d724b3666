-- A stand with other cells in place of its own: the stack's part of replay does not look at them. Assumes nothing.
use mathlib.Core.Path.{◌≡◌, refl}
use Prim.Native.Nat.{ℕ, zero, suc}
use Rattle.machine.specs.Ram.{Cells}
use Rattle.replay.specs.Replay.{Built, built, stack_fault, stack_turn}

abbrev pub strip : Cells → Built → Built
strip c b = built b.counts b.depth b.words c

pub same-stack : (c : Cells) (b : Built) (t q d v : ℕ) → stack_fault (strip c b) t q d v ≡ stack_fault b t q d v
unfolding stack_fault
same-stack c b t q zero v = refl
same-stack c b t q (suc d) v = refl

pub same_turn : (c : Cells) (b : Built) (t d v : ℕ) → stack_turn (strip c b) t d v ≡ strip c (stack_turn b t d v)
unfolding stack_turn
same_turn c b t zero v = refl
same_turn c b t (suc d) v = refl
