use Rattle.std.proofs.Common.{◌++◌, ◌-◌, drop, refl, arith}
use Rattle.machine_effects.specs.declared.effect.Direction.TheVariants.{Read, Write}
use Rattle.machine_log.proofs.Logged.{any-more, ram-all}
use Rattle.machine_log.proofs.calls.log_accesses.Goals as goal

pub returns : goal.returns
returns c =
    let a = c.args.accesses.now in
    let r = c.reads_as_slice.ensures in
    let w = c.writes_as_slice.ensures in
    let x = ram-all c.args.clock Read a.cells _ a.reads _ r.cells r.count refl in
    let y = ram-all c.args.clock Write (drop a.reads a.cells) _ (a.count - a.reads) _ w.cells w.count refl in
    any-more (omega arith) c.log_row-next.ensures c.log_row.ensures (λ i. x.0 i ++ y.0 i) (omega (arith, r.count, w.count, a.reads_first))
