use mathlib.Core.Path.{refl}
use native.Mathlib.Omega.{arith}
use Rattle.job.specs.Listing.{counts_of}
use Rattle.job.proofs.ListingLaws.{put-more}
use Rattle.job.proofs.put.put_counts.Goals as goal

pub returns : goal.returns
unfolding counts_of
returns c =
    put-more (omega arith) (put-more (omega arith) c.put_field-first.ensures c.put_field-second.ensures refl refl) c.put_field.ensures refl refl
