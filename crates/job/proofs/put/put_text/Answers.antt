use mathlib.Core.Path.{refl}
use native.Mathlib.Omega.{arith}
use Rattle.job.proofs.ListingLaws.{put-none, put_all, put-more, text_more}
use Rattle.job.proofs.put.put_text.Goals as goal

pub loop-i-init : goal.loop-i-init
loop-i-init c = (omega arith, refl, put-none _ _)

pub loop-i-preserved : goal.loop-i-preserved
loop-i-preserved c =
    let l = c.loop-i in
    (omega arith, omega arith, put-more (omega arith) l.invariant.2 c.put_byte-next.ensures (text_more _ l.i (omega arith)) refl)

pub returns : goal.returns
returns c = put_all (omega arith) c.loop-i.invariant.2
