use Rattle.std.specs.Prelude.{◌≡◌, List, ℕ, ◌++◌, length}
use Rattle.job.specs.Listing.{decimal_of, Before}
use Rattle.job.proofs.from_end.decimal_before.Given as goal

-- the digits behind what is left of the number are written
abbrev pub invariant-loop-rest : goal.invariant-loop-rest
invariant-loop-rest l = (tail : List ℕ) × (decimal_of l.v ≡ decimal_of l.rest ++ tail) × Before l.initial.b l.b l.end tail l.start × (length l.b ≡ length l.initial.b)

abbrev pub decreases-loop-rest : goal.decreases-loop-rest
decreases-loop-rest l = l.rest
