use Rattle.replay_group.proofs.WriteLaws.{bring_merging, brings}
use Rattle.replay_group.proofs.write.bring.Goals as goal

pub merge_seen-requires : goal.merge_seen-requires
merge_seen-requires c =
    let k = c.look-own.ensures in
    rw k.count (bring_merging _ _ _ (rw (k.addresses, k.count) at c.lacked_seen.ensures) c.requires)

pub returns-clause-brings : goal.returns-clause-brings
returns-clause-brings c =
    let k = c.look-own.ensures in
    brings _ _ _ (rw (k.addresses, k.count) at c.lacked_seen.ensures) _ (rw k.count at c.merge_seen.ensures.count) c.merge_seen.ensures.merged
