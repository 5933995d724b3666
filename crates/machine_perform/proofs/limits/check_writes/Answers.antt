use Rattle.std.proofs.Common.{arith}
use Rattle.machine_ram.specs.LentCells.{cells_of}
use Rattle.machine_perform.proofs.LimitsLaws.{fresh-least, writes_fit, writes_counted}
use Rattle.machine_perform.proofs.limits.check_writes.Goals as goal

pub returns-then-ram-writes : goal.returns-then-ram-writes
returns-then-ram-writes c =
    let r = c.args.ram.now in
    writes_fit (cells_of r) _ _ r.usable.ordered.within c.requires.2 (omega arith) c.if-ram-writes.true

pub returns : goal.returns
returns c =
    let r = c.args.ram.now in
    writes_counted (cells_of r) _ _ r.usable.ordered.within c.requires.2 (omega arith) c.fresh-more.ensures c.check_room.ensures

pub overflow_add-ram-2 : goal.overflow_add-ram-2
overflow_add-ram-2 c = omega (arith, c.requires, c.args.ram.now.usable.ordered.within, fresh-least _ _ _ _ c.fresh-more.ensures)
