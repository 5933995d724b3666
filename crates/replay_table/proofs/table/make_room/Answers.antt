use Rattle.replay_table.specs.Table.{left}
use Rattle.replay_table.proofs.TableLaws.{waits-not}
use Rattle.replay_table.proofs.table.make_room.Goals as goal

pub returns-then-waits-clause-makes : goal.returns-then-waits-clause-makes
returns-then-waits-clause-makes c =
    let w = c.waits.ensures in
    left (w.late_room c.if-waits.true) (w.room c.if-waits.true)

pub make_more-requires : goal.make_more-requires
make_more-requires c =
    let r = c.requires in
    (r.0, r.1, waits-not c.waits.ensures c.if-waits.false)
