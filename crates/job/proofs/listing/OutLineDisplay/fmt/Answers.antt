use Rattle.std.proofs.Common.{arith}
use Rattle.std.proofs.Output.{has_written_of_eq}
use Rattle.job.proofs.ListingLaws.{out_is}
use Rattle.job.proofs.listing.OutLineDisplay.fmt.Goals as goal

pub returns-clause-writes : goal.returns-clause-writes
returns-clause-writes g c p q = has_written_of_eq _ _ _ _ _ (out_is _ (omega arith)) (c.write.ensures.writes p q)
