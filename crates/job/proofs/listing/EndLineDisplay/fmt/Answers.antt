use Rattle.std.proofs.Common.{refl, ap, ◌++◌, List, ℕ, arith}
use Rattle.std.proofs.Output.{has_written_of_eq}
use Rattle.job.specs.Listing.{halted_line, spent_line, refused_line, refused_text}
use Rattle.job.proofs.ListingLaws.{refused_is}
use Rattle.job.proofs.listing.EndLineDisplay.fmt.Goals as goal

pub returns-in-Halted-clause-writes : goal.returns-in-Halted-clause-writes
unfolding halted_line
returns-in-Halted-clause-writes g c p q = has_written_of_eq _ _ _ _ _ (rw c.in-Halted.is refl) (c.write.ensures.writes p q)

pub returns-in-Spent-clause-writes : goal.returns-in-Spent-clause-writes
unfolding spent_line
returns-in-Spent-clause-writes g c p q = has_written_of_eq _ _ _ _ _ (rw c.in-Spent.is refl) (c.write-in-Spent.ensures.writes p q)

pub returns-in-Refused-clause-writes : goal.returns-in-Refused-clause-writes
unfolding refused_line
returns-in-Refused-clause-writes g c p q = has_written_of_eq _ _ _ _ _ (rw c.in-Refused.is (ap (λ (u : List ℕ). refused_text ++ u) (refused_is _ _ (omega arith)))) (c.write-in-Refused.ensures.writes p q)
