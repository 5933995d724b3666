use native.Mathlib.Omega.{arith}
use borrow.Author.Tests.{ne_eqb}
use Rattle.job.specs.Listing.{direction_text}
use Rattle.job.proofs.ListingLaws.{put_as}
use Rattle.job.proofs.put.put_direction.Goals as goal

pub returns-then-dir-eq0 : goal.returns-then-dir-eq0
unfolding direction_text
returns-then-dir-eq0 c =
    put_as c.put_text.ensures (rw c.if-dir-eq0.true) (rw c.if-dir-eq0.true (omega arith))

pub returns-else-dir-eq0 : goal.returns-else-dir-eq0
unfolding direction_text
returns-else-dir-eq0 c =
    let e = ne_eqb _ _ c.if-dir-eq0.false in
    put_as c.put_text-else-dir-eq0.ensures (rw e) (rw e (omega arith))
