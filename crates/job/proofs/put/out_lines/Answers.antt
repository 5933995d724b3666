use mathlib.Core.Path.{◌≡◌, refl}
use native.Mathlib.Omega.{arith}
use lib.ListN.{length, take}
use lib.Seq.{take-length}
use Rattle.job.proofs.ListingLaws.{put-none, put_as, put-more, out_none, out_more}
use Rattle.job.proofs.put.out_lines.Goals as goal

pub loop-i-init : goal.loop-i-init
loop-i-init c =
    let a = c.args in
    (omega arith, refl, put_as (put-none _ _) (out_none a.words.now) (rw (← out_none a.words.now) (omega arith)))

pub loop-i-preserved : goal.loop-i-preserved
loop-i-preserved c =
    let l = c.loop-i in
    let a = c.args in
    (omega arith, omega arith, put-more (omega arith) l.invariant.2 c.out_line-next.ensures (out_more a.words.now l.i (omega arith)) (omega arith))

pub returns : goal.returns
returns c =
    let l = c.loop-i in
    let a = c.args in
    let e : l.i ≡ length a.words.now = omega arith in
    let f : take l.i a.words.now ≡ a.words.now = rw (e, take-length) in
    rw (f, e) at l.invariant.2
