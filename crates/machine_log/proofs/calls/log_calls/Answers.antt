use Rattle.std.proofs.Common.{refl, sym, arith}
use Rattle.machine_log.proofs.Logged.{wrote_as, wrote-more, accesses_are, calls-append}
use Rattle.machine_log.proofs.calls.log_calls.Goals as goal

pub returns : goal.returns
returns c =
    let a = c.args in
    wrote-more (omega arith) c.log_u32s-next.ensures (wrote_as (c.log_accesses.ensures.any _) (accesses_are a.revision a.clock a.effect.now.accesses) refl)
    (sym (calls-append a.revision a.clock _ _))
    refl
