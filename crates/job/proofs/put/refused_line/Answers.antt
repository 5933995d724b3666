use mathlib.Core.Path.{refl}
use native.Mathlib.Omega.{arith}
use Rattle.job.specs.Listing.{refused_line}
use Rattle.job.proofs.ListingLaws.{put-more}
use Rattle.job.proofs.put.refused_line.Goals as goal

pub returns : goal.returns
unfolding refused_line
returns c =
    put-more (omega arith) (put-more (omega arith) c.put_text-first.ensures c.put_field-second.ensures refl refl) c.put_counts.ensures refl refl
