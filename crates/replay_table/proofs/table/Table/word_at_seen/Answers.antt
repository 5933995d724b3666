use Rattle.replay_table.proofs.table.Table.word_at_seen.Goals as goal

pub word_at-requires : goal.word_at-requires
word_at-requires c =
    let k = c.look.ensures in
    rw (k.cells.addresses, k.cells.values, k.cells.count, k.late.addresses, k.late.values, k.late.count) c.requires

pub returns : goal.returns
returns c =
    let k = c.look.ensures in
    rw (k.cells.addresses, k.cells.values, k.cells.count, k.late.addresses, k.late.values, k.late.count) at c.word_at.ensures
