use Rattle.machine.specs.Ram.{cells}
use Rattle.replay_table.proofs.TableLaws.{put_here, put-not, late_room}
use Rattle.replay_table.proofs.KeptLaws.{kept_stored}
use Rattle.replay_table.proofs.table.put.Goals as goal

pub write-requires : goal.write-requires
write-requires c =
    let r = c.requires in
    late_room r.0 _ _ r.1

pub returns-in-Ok-clause-puts : goal.returns-in-Ok-clause-puts
returns-in-Ok-clause-puts c =
    let a = c.args in
    put_here (cells a.count a.addresses.now a.values.now) _ a.address a.value _ (c.in-Ok.ensures.is a.values.now)

pub returns-in-Err-clause-puts : goal.returns-in-Err-clause-puts
returns-in-Err-clause-puts c =
    let a = c.args in
    put-not (cells a.count a.addresses.now a.values.now) _ a.address a.value _ (c.in-Err.ensures.is a.values.now) c.write.ensures.stored

pub returns-in-Err-clause-kept : goal.returns-in-Err-clause-kept
returns-in-Err-clause-kept c =
    let w = c.write.ensures in
    kept_stored w.lent w.stored
