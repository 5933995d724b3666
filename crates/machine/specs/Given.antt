-- The calls that look at a machine and give words of it: the helper variables, and the row of the processor table.
use Rattle.std.specs.Prelude.{ℕ, List, replicate, eqb}
use Rattle.choices.specs.Choice.{cond}
use Rattle.machine.specs.Machine.{Machine}
use Rattle.machine.specs.PlaceA.{machine_a}

-- the number of place A, or 0, and the words, zeros where it is refused
pub record Given : Type 0 where
  pub number : ℕ
  pub words : List ℕ

abbrev pub given : ℕ → List ℕ → Given
given n s = record { number = n; words = s }

-- the words s, k of them, where place A accepts m
unfoldable pub given_of : Machine → ℕ → List ℕ → Given
given_of m k s = cond (eqb (machine_a m) 0) (given 0 s) (given (machine_a m) (replicate k 0))
