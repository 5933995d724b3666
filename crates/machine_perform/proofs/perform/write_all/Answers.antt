use Rattle.std.proofs.Common.{sym, drop}
use Rattle.machine.specs.Ram.{cells}
use Rattle.machine_effects.specs.declared.effect.Direction.TheVariants.{Write}
use Rattle.machine_perform.proofs.LimitsLaws.{read_touch, accesses_touch, reads_alone, first_slice}
use Rattle.machine_perform.proofs.perform.write_all.Goals as goal

pub returns-then-accesses : goal.returns-then-accesses
returns-then-accesses c = rw (reads_alone c.args.accesses.now c.if-accesses.true) (sym (read_touch _ _ _))

pub write_cells-requires : goal.write_cells-requires
write_cells-requires c =
    let a = c.args.accesses.now in
    let r = c.requires in
    let f = rw (accesses_touch a (cells c.args.count c.args.addresses.now c.args.values.now)) at r.fits in
    record { ordered = r.ordered; pair = r.pair; fits = rw (first_slice Write (drop a.reads a.cells) _ _ c.writes_as_slice.ensures.cells) f }

pub returns : goal.returns
returns c =
    let a = c.args.accesses.now in
    rw (accesses_touch a (cells c.args.count c.args.addresses.now c.args.values.now), ← first_slice Write (drop a.reads a.cells) _ _ c.writes_as_slice.ensures.cells) c.write_cells.ensures
