use Rattle.std.proofs.Common.{sym, ◌∙◌, refl, ◌+◌, arith}
use lib.Seq.{length-take-le}
use Rattle.job.proofs.FrameLaws.{whole-none, whole-other, whole-short, whole_is}
use Rattle.job.proofs.frame.whole_in.Goals as goal

pub returns-then-n-eq0 : goal.returns-then-n-eq0
returns-then-n-eq0 c = sym (whole-none c.args.bytes.now c.args.n c.if-n-eq0.true)

pub returns-then-number_in-n : goal.returns-then-number_in-n
returns-then-number_in-n c =
    sym (whole-other c.args.bytes.now c.args.n c.if-n-eq0.false (λ e. c.if-number_in-n.true (c.number_in.ensures.0 ∙ e)))

pub returns-then-bytes-n : goal.returns-then-bytes-n
returns-then-bytes-n c = sym (whole-short c.args.bytes.now c.args.n c.if-n-eq0.false (sym c.number_in.ensures.0 ∙ c.if-number_in-n.false) c.if-bytes-n.true)

pub returns : goal.returns
returns c =
    let e = whole_is c.args.bytes.now c.args.n c.if-n-eq0.false (sym c.number_in.ensures.0 ∙ c.if-number_in-n.false) c.if-bytes-n.false in
    rw e (omega arith, refl, length-take-le (c.args.n + 2) c.args.bytes.now c.if-bytes-n.false)
