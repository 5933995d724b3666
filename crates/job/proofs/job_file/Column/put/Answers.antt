use Rattle.std.proofs.Common.{◌+◌, ◌≤◌, length, sym, ◌∙◌, refl, arith, rules}
use borrow.Author.Tests.{eqb-true}
use Rattle.job.proofs.JobFileLaws.{put_no, put_start, put-next, put_all_numbers}
use Rattle.job.proofs.job_file.Column.put.Goals as goal

pub returns-then-not-same_kind : goal.returns-then-not-same_kind
returns-then-not-same_kind c = put_no _ _ _ _ (sym c.same_kind.ensures ∙ c.if-not-same_kind.true)

pub loop-i-init : goal.loop-i-init
loop-i-init c = (refl, put_start _ _)

pub loop-i-preserved : goal.loop-i-preserved
loop-i-preserved c =
    let a = c.args in
    let r : a.to + a.self.many ≤ length a.out.now = c.requires.room (eqb-true _ _ (sym c.same_kind.ensures ∙ c.if-not-same_kind.false)) in
    (search rules, put-next a.self.width c.loop-i.i _ _ (omega arith) (omega (arith, c.loop-i.invariant.0, c.loop-i-test.true)) c.loop-i.invariant.1 c.number_in.ensures.0)

pub returns : goal.returns
returns c =
    put_all_numbers _ _ _ _ c.args.piece.bytes.now _ (sym c.same_kind.ensures ∙ c.if-not-same_kind.false) (omega (arith, c.loop-i-test.false, c.loop-i.auto.i-end)) c.loop-i.invariant.1
