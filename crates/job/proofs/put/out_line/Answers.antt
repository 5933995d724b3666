use mathlib.Core.Path.{refl}
use native.Mathlib.Omega.{arith}
use Rattle.job.specs.Listing.{out_line}
use Rattle.job.proofs.ListingLaws.{put-more}
use Rattle.job.proofs.put.out_line.Goals as goal

pub returns : goal.returns
unfolding out_line
returns c =
    put-more (omega arith) c.put_text-next.ensures c.put_field.ensures refl refl
