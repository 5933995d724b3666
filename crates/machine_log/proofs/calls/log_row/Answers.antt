use Rattle.std.proofs.Common.{◌≡◌, length, refl, arith}
use Rattle.machine_log.specs.Logged.{ram_records}
use Rattle.machine_log.proofs.Logged.{any_none, any-more, ram-more}
use Rattle.machine_log.proofs.calls.log_row.Goals as goal

pub loop-access-init : goal.loop-access-init
unfolding ram_records
loop-access-init c = any_none _ _ _ _ refl refl

pub loop-access-preserved : goal.loop-access-preserved
loop-access-preserved c =
    let l = c.loop-access in
    any-more (omega arith) l.invariant c.log_ram-next.ensures (ram-more _ _ _ l.access-index _ (omega arith)) (omega arith)

pub returns : goal.returns
returns c =
    let e : c.loop-access.access-index ≡ length c.args.accesses.now = omega arith in
    rw e at c.loop-access.invariant
