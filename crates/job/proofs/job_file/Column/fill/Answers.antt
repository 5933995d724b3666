use Rattle.std.proofs.Common.{refl, arith}
use Rattle.job.proofs.JobFileLaws.{columns-none, columns-all, columns-more, has-column}
use Rattle.job.proofs.job_file.Column.fill.Goals as goal

pub loop-piece-init : goal.loop-piece-init
loop-piece-init c = rw c.into_iter-piece-iterator.ensures.into_iter_gives (refl, columns-none _ _ _ _ _ _)

pub put-to-requires : goal.put-to-requires
put-to-requires c =
    let i = c.loop-piece.invariant in
    let s = c.in-Some.ensures.steps in
    rw (s.1.0, s.1.1) (has-column _ c.requires s.0 i.0 i.1)

pub loop-piece-preserved : goal.loop-piece-preserved
loop-piece-preserved c =
    let i = c.loop-piece.invariant in
    let s = c.in-Some.ensures.steps in
    (omega arith, rw s.2 (columns-more _ c.requires s.0 i.1 (rw (s.1.0, s.1.1) at c.put-to.ensures)))

pub returns : goal.returns
returns c = columns-all c.in-None.ensures.steps.0 c.loop-piece.invariant.1
