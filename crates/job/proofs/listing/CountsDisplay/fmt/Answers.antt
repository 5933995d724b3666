use Rattle.std.proofs.Common.{arith}
use Rattle.std.proofs.Output.{has_written_of_eq}
use Rattle.job.proofs.ListingLaws.{counts_is}
use Rattle.job.proofs.listing.CountsDisplay.fmt.Goals as goal

pub returns-clause-writes : goal.returns-clause-writes
returns-clause-writes g c p q = has_written_of_eq _ _ _ _ _ (counts_is _ _ _ (omega arith) (omega arith) (omega arith)) (c.write.ensures.writes p q)
