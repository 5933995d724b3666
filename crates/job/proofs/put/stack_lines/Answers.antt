use borrow.Author.Rules.{rules}
use mathlib.Core.Path.{refl}
use native.Mathlib.Omega.{arith}
use Rattle.job.proofs.LogLinesLaws.{whole-place, lines_none, lines_more, lines-all}
use Rattle.job.proofs.put.stack_lines.Goals as goal

pub loop-n-init : goal.loop-n-init
loop-n-init c =
    let a = c.args in
    (omega arith, c.record_length-n.ensures, refl, lines_none a.log.now _ _)

pub line_at-next-requires : goal.line_at-next-requires
line_at-next-requires c =
    let l = c.loop-n in
    let a = c.args in
    let w = whole-place a.log.now l.at l.n l.invariant.0 c.loop-n-test.true l.invariant.1 in
    (l.invariant.0, c.loop-n-test.true, l.invariant.1, omega (arith, w.2, l.invariant.2, l.invariant.3.put.end, l.invariant.3.put.few))

pub record_length-n-requires-in-loop-n : goal.record_length-n-requires-in-loop-n
record_length-n-requires-in-loop-n c =
    let l = c.loop-n in
    let a = c.args in
    let w = whole-place a.log.now l.at l.n l.invariant.0 c.loop-n-test.true l.invariant.1 in
    omega (arith, w.2)

pub loop-n-smaller : goal.loop-n-smaller
loop-n-smaller c =
    let l = c.loop-n in
    let a = c.args in
    let w = whole-place a.log.now l.at l.n l.invariant.0 c.loop-n-test.true l.invariant.1 in
    omega (arith, w.2)

pub overflow_add-at : goal.overflow_add-at
overflow_add-at c =
    let l = c.loop-n in
    let w = whole-place c.args.log.now l.at l.n l.invariant.0 c.loop-n-test.true l.invariant.1 in
    omega (arith, w.2)

pub loop-n-preserved : goal.loop-n-preserved
loop-n-preserved c =
    let l = c.loop-n in
    let a = c.args in
    let w = whole-place a.log.now l.at l.n l.invariant.0 c.loop-n-test.true l.invariant.1 in
    (omega (arith, w.2), c.record_length-n-in-loop-n.ensures, search rules, lines_more (omega arith) l.invariant.0 c.loop-n-test.true l.invariant.1 l.invariant.3 c.line_at-next.ensures)

pub returns : goal.returns
returns c =
    let l = c.loop-n in
    lines-all l.invariant.0 l.invariant.1 (omega arith) l.invariant.3
