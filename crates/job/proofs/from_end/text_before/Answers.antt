use Rattle.std.proofs.Common.{arith}
use Rattle.job.proofs.ListingLaws.{before-text}
use Rattle.job.proofs.from_end.text_before.Goals as goal

pub returns : goal.returns
returns c = rw (c.copy_from_slice.ensures.after) (before-text _ _ _ _ _ (omega arith) c.requires.1 (omega arith))
