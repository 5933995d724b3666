use Rattle.replay_group.proofs.PassLaws.{gathers-settled}
use Rattle.replay_group.proofs.group.group_from_seen.Goals as goal

pub settle-requires : goal.settle-requires
settle-requires c =
    let r = c.requires in
    (c.pass_log-group.ensures.gathers.gathered r.0.records r.0.walk).table.cells

pub returns-clause-gathers : goal.returns-clause-gathers
returns-clause-gathers c =
    let s = c.settle.ensures in
    rw (s.alike.addresses, s.alike.values) (gathers-settled c.requires.0 c.pass_log-group.ensures.gathers s.count s.merged)
