use Rattle.std.proofs.Common.{sym, ◌∙◌, arith}
use Rattle.job.proofs.JobFileLaws.{count-step, count-all, shorter}
use Rattle.job.proofs.job_file.count.Goals as goal

pub loop-piece-preserved-then-same_kind : goal.loop-piece-preserved-then-same_kind
loop-piece-preserved-then-same_kind c =
    let i = c.loop-piece.invariant in
    let s = c.in-Some.ensures.steps in
    (omega (arith, i.0, shorter _ _ s.0 s.2), count-step _ _ _ _ _ _ _ s.0 s.1.0 (sym c.same_kind.ensures ∙ c.if-same_kind.true) s.2 i.1)

pub loop-piece-preserved : goal.loop-piece-preserved
loop-piece-preserved c =
    let i = c.loop-piece.invariant in
    let s = c.in-Some.ensures.steps in
    let h = count-step _ _ _ _ _ _ _ s.0 s.1.0 (sym c.same_kind.ensures ∙ c.if-same_kind.false) s.2 i.1 in
    (omega (arith, i.0, shorter _ _ s.0 s.2), omega (arith, h))

pub returns : goal.returns
returns c = count-all _ _ _ _ c.in-None.ensures.steps.0 c.loop-piece.invariant.1
