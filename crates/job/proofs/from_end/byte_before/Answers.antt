use Rattle.job.proofs.ListingLaws.{before-at}
use Rattle.job.proofs.from_end.byte_before.Goals as goal

pub returns : goal.returns
returns c = before-at _ _ _ c.requires.0 c.requires.1
