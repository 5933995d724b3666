use Rattle.std.proofs.Common.{refl, arith}
use Rattle.machine_log.proofs.Logged.{wrote-more, besides_are}
use Rattle.machine_log.proofs.calls.write.Goals as goal

pub returns : goal.returns
returns c =
    let a = c.args in
    wrote-more (omega arith)
    (wrote-more (omega arith) (wrote-more (omega arith) c.log_before-next.ensures c.log_calls-then.ensures refl refl) c.log_behind-end.ensures
    (besides_are a.revision a.clock a.besides _) refl)
    (c.log_depth.ensures.any _)
    refl
    (omega arith)
