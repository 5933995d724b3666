use Rattle.machine_ram.specs.LentCells.{cells_of}
use Rattle.machine_perform.proofs.LimitsLaws.{same_address, among_found, new_among, new_by}
use Rattle.machine_perform.proofs.limits.new_cell.Goals as goal

pub returns-then-among : goal.returns-then-among
returns-then-among c =
    let a = same_address _ _ _ c.requires in
    new_among _ _ _ _ a (among_found _ _ _ c.requires a c.among.ensures c.if-among.true)

pub returns : goal.returns
returns c =
    let r = c.args.ram.now in
    let a = same_address _ _ _ c.requires in
    new_by (cells_of r) _ _ a (among_found _ _ _ c.requires a c.among.ensures c.if-among.false) _ (c.find_near.ensures.is r.values.now)
