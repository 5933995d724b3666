use Rattle.std.proofs.Common.{refl, arith, rules}
use Rattle.machine_ram.proofs.RamView.{moved_none, moved_one, moved_all}
use Rattle.machine_ram.proofs.ram_mut.move_up.Goals as goal

pub loop-k-init : goal.loop-k-init
loop-k-init c = (omega arith, refl, moved_none _ _)

pub loop-k-preserved : goal.loop-k-preserved
loop-k-preserved c = (omega arith, search rules, moved_one _ _ _ _ c.loop-k-test.true c.loop-k.invariant.0 c.loop-k.invariant.2)

pub returns : goal.returns
returns c = moved_all _ _ _ _ c.loop-k-test.false c.loop-k.invariant.2
