use mathlib.Core.Path.{refl}
use native.Mathlib.Omega.{arith}
use Rattle.job.specs.Listing.{stack_line}
use Rattle.job.proofs.ListingLaws.{put-more}
use Rattle.job.proofs.put.stack_line.Goals as goal

pub returns : goal.returns
unfolding stack_line
returns c =
    put-more (omega arith)
    (put-more (omega arith)
    (put-more (omega arith)
    (put-more (omega arith) c.put_text-first.ensures c.put_field-second.ensures refl refl)
    c.put_field-third.ensures refl refl)
    c.put_direction-fourth.ensures refl refl)
    c.put_field.ensures refl refl
