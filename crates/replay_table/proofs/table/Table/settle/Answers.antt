use Rattle.replay_table.proofs.table.Table.settle.Goals as goal

pub settle-requires : goal.settle-requires
settle-requires c =
    let k = c.look-late.ensures in
    rw (k.addresses, k.values, k.count) c.requires

pub returns-clause-merged : goal.returns-clause-merged
returns-clause-merged c =
    let k = c.look-late.ensures in
    rw (k.addresses, k.values, k.count) at c.settle.ensures.merged
