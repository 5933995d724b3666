use Rattle.machine_ram.specs.LentCells.{cells_of_mut}
use Rattle.replay_table.proofs.TableLaws.{put_here, put-not, late_room}
use Rattle.replay_table.proofs.KeptLaws.{kept_same, kept_stored}
use Rattle.replay_table.proofs.table.Table.put.Goals as goal

pub write-requires : goal.write-requires
write-requires c =
    let r = c.requires in
    late_room r.0 _ _ r.1

pub returns-in-Ok-clause-puts : goal.returns-in-Ok-clause-puts
returns-in-Ok-clause-puts c =
    let a = c.args in
    put_here (cells_of_mut a.self.now.cells) _ a.address a.value _ (c.in-Ok.ensures.is a.self.now.cells.values.now)

pub returns-in-Err-clause-puts : goal.returns-in-Err-clause-puts
returns-in-Err-clause-puts c =
    let a = c.args in
    put-not (cells_of_mut a.self.now.cells) _ a.address a.value _ (c.in-Err.ensures.is a.self.now.cells.values.now) c.write.ensures.stored

pub returns-in-Err-clause-kept : goal.returns-in-Err-clause-kept
returns-in-Err-clause-kept c =
    let w = c.write.ensures in
    record { cells = kept_same _; late = kept_stored w.lent w.stored }
