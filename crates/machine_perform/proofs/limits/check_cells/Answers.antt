use Rattle.std.proofs.Common.{drop}
use Rattle.machine_effects.specs.declared.effect.Direction.TheVariants.{Write}
use Rattle.machine_ram.specs.LentCells.{cells_of}
use Rattle.machine_perform.proofs.LimitsLaws.{cells_read, accesses_touch, reads_alone, first_slice}
use Rattle.machine_perform.proofs.limits.check_cells.Goals as goal

pub returns-then-accesses : goal.returns-then-accesses
returns-then-accesses c = rw (reads_alone c.args.accesses.now c.if-accesses.true) (cells_read (cells_of c.args.ram.now) _ _ c.args.ram.now.usable.ordered.within)

pub returns : goal.returns
returns c =
    let a = c.args.accesses.now in
    rw (accesses_touch a (cells_of c.args.ram.now), ← first_slice Write (drop a.reads a.cells) _ _ c.writes_as_slice.ensures.cells) c.check_writes.ensures
