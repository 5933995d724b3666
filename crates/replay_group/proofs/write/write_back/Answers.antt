use Rattle.replay_group.proofs.WriteLaws.{brought-whole, written-whole}
use Rattle.replay_group.proofs.write.write_back.Goals as goal

pub bring-requires : goal.bring-requires
bring-requires c =
    let r = c.requires in
    let k = c.look-written.ensures in
    rw (k.addresses, k.values, k.count) (brought-whole r.0 (r.2.table c.if-whole.true r.0.records r.0.walk))

pub returns-then-whole-clause-written : goal.returns-then-whole-clause-written
returns-then-whole-clause-written c =
    let r = c.requires in
    let k = c.look-written.ensures in
    written-whole r.0 (r.2.table c.if-whole.true r.0.records r.0.walk) (rw (k.addresses, k.values, k.count) at c.bring.ensures.brings)
