use mathlib.Core.Path.{refl}
use native.Mathlib.Omega.{arith}
use Rattle.job.specs.Listing.{halted_line}
use Rattle.job.proofs.ListingLaws.{put-more}
use Rattle.job.proofs.put.halted_line.Goals as goal

pub returns : goal.returns
unfolding halted_line
returns c =
    put-more (omega arith) c.put_text-next.ensures c.put_counts.ensures refl refl
