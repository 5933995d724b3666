use mathlib.Core.Path.{refl}
use Rattle.replay_calls.proofs.Deciding.{fitting}
use Rattle.replay_group.proofs.SweepLaws.{lent_again}
use Rattle.replay_calls.proofs.call.rebuild.Goals as goal

pub write_back-requires : goal.write_back-requires
write_back-requires c =
    let r = c.requires in
    let s = c.look-opening.ensures in
    let d = c.in_ok-whole.ensures in
    let k = d.kept in
    (fitting r.0 (rw (s.addresses, s.values, s.count) at d.decides) refl, lent_again r.1 k.cells.room k.cells.pair k.late.room k.late.pair, d.left)
