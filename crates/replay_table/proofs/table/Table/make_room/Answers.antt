use Rattle.replay_table.proofs.table.Table.make_room.Goals as goal

pub make_room-made-requires : goal.make_room-made-requires
make_room-made-requires c =
    let k = c.look-late.ensures in
    rw (k.addresses, k.values, k.count) c.requires

pub returns-clause-makes : goal.returns-clause-makes
returns-clause-makes c =
    let k = c.look-late.ensures in
    rw (k.addresses, k.values, k.count) at c.make_room-made.ensures.makes
