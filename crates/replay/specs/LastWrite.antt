-- What the records of a log say of an address by themselves: the last word written to it, whether one was, and the cells
-- after all of them. So replay can decide on a log before it writes any cell.
use Rattle.std.specs.Prelude.{ℕ, zero, suc, Bool, true, List, [], ◌∷◌, eqb}
use Rattle.choices.specs.Choice.{cond}
use Rattle.machine.specs.Ram.{Cells, stored}
use Rattle.machine.specs.Records.{Record, other, timed, stack, ram}

-- the last word written to the address a, x where there is none
unfoldable pub wrote_of : List Record → ℕ → ℕ → ℕ
wrote_of [] a x = x
wrote_of (other k s ∷ rs) a x = wrote_of rs a x
wrote_of (timed k t s ∷ rs) a x = wrote_of rs a x
wrote_of (stack t q d v ∷ rs) a x = wrote_of rs a x
wrote_of (ram t b v zero ∷ rs) a x = wrote_of rs a x
wrote_of (ram t b v (suc d) ∷ rs) a x = wrote_of rs a (cond (eqb a b) v x)

-- whether the address a has been written to, x where it has not
unfoldable pub had_of : List Record → ℕ → Bool → Bool
had_of [] a x = x
had_of (other k s ∷ rs) a x = had_of rs a x
had_of (timed k t s ∷ rs) a x = had_of rs a x
had_of (stack t q d v ∷ rs) a x = had_of rs a x
had_of (ram t b v zero ∷ rs) a x = had_of rs a x
had_of (ram t b v (suc d) ∷ rs) a x = had_of rs a (cond (eqb a b) true x)

-- the cells after the writes among the records
unfoldable pub wrote_all : Cells → List Record → Cells
wrote_all c [] = c
wrote_all c (other k s ∷ rs) = wrote_all c rs
wrote_all c (timed k t s ∷ rs) = wrote_all c rs
wrote_all c (stack t q d v ∷ rs) = wrote_all c rs
wrote_all c (ram t b v zero ∷ rs) = wrote_all c rs
wrote_all c (ram t b v (suc d) ∷ rs) = wrote_all (stored c b v) rs
