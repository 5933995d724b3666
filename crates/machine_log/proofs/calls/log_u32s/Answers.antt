use Rattle.std.proofs.Common.{refl, sym, arith}
use Rattle.machine_log.proofs.Logged.{wrote_none, wrote_as, wrote-more, no_calls, u32_is, calls-append}
use Rattle.machine_log.proofs.calls.log_u32s.Goals as goal

pub returns-in-Zero : goal.returns-in-Zero
returns-in-Zero c = rw c.in-Zero.is (wrote_none _ _ _ _ _ (no_calls c.args.revision c.args.clock) (omega arith))

pub returns-in-One : goal.returns-in-One
returns-in-One c = rw c.in-One.is (wrote_as c.log_u32.ensures (u32_is c.args.revision c.args.clock c.in-One.call) (omega arith))

pub returns-in-Two : goal.returns-in-Two
returns-in-Two c =
    let v = c.args.revision in
    let t = c.args.clock in
    let q = rw c.in-Two.is at c.requires in
    rw c.in-Two.is
    (wrote-more (omega (arith, q))
    (wrote_as c.log_u32-next.ensures (u32_is v t c.in-Two.first) refl)
    (wrote_as c.log_u32-in-Two.ensures (u32_is v t c.in-Two.second) refl)
    (sym (calls-append v t _ _))
    (omega arith))
