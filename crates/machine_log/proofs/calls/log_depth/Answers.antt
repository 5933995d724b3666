use Rattle.std.proofs.Common.{◌≡◌, ◌+◌, ◌-◌, ◌*◌, refl, arith}
use Rattle.machine_log.proofs.Logged.{any_none, any-more, row-none, row_more, row-all}
use Rattle.machine_log.proofs.calls.log_depth.Goals as goal

pub loop-i-init : goal.loop-i-init
loop-i-init c =
    let a = c.args in
    any_none _ _ _ _ (row-none a.clock a.stack.now a.depth a.after) refl

pub loop-i-preserved : goal.loop-i-preserved
loop-i-preserved c =
    let l = c.loop-i in
    let a = c.args in
    any-more (omega arith) l.invariant c.log_stack-next.ensures
    (row_more a.clock a.stack.now a.depth a.after l.i c.pointer-q.ensures.0 c.direction-way.ensures)
    (omega arith)

pub returns : goal.returns
returns c =
    let l = c.loop-i in
    let a = c.args in
    let e : l.i ≡ a.after - a.depth + (a.depth - a.after) = omega arith in
    let f : 25 * l.i ≡ 25 * (a.after - a.depth) + 25 * (a.depth - a.after) = omega arith in
    rw (← row-all a.clock a.stack.now a.depth a.after l.i e, ← f) l.invariant
