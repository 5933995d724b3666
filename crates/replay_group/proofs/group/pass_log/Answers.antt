use native.Mathlib.Omega.{arith}
use mathlib.Core.Path.{◌≡◌, ◌∙◌}
use Rattle.replay_scan.proofs.WalkLaws.{walk-not_broken}
use Rattle.replay_table.proofs.KeptLaws.{table_same, table_on}
use Rattle.replay_group.proofs.SweepLaws.{lent_again}
use Rattle.replay_group.proofs.PassLaws.{going_start, going_made, going_next, onward_end, onward-wrong}
use Rattle.replay_group.proofs.group.pass_log.Goals as goal

pub loop-record-init : goal.loop-record-init
loop-record-init c =
    let r = c.requires in
    let k = c.clear.ensures in
    let s = c.records-record-items.ensures in
    rw c.into_iter-record-iterator.ensures.into_iter_gives
    (record {
      can = rw (s.to, s.log) r.0.ends;
      finite = tt;
      log = s.log;
      to = s.to;
      going = rw (s.at, k.count, k.late) (going_start _ _ r.1 (lent_again r.3 k.kept.cells.room k.kept.cells.pair k.kept.late.room k.kept.late.pair));
      kept = table_same _;
    })

pub unreachable-requires : goal.unreachable-requires
unreachable-requires c =
    let r = c.requires in
    let i = c.loop-record.invariant in
    let b = rw (c.in_default.is, i.log, i.to) at c.in-Some.ensures.steps in
    walk-not_broken (rw b.place at b.head) (rw b.place at b.before) (i.going.on r.0.records r.0.walk).left

pub is_wrong-requires : goal.is_wrong-requires
is_wrong-requires c =
    let r = c.requires in
    let i = c.loop-record.invariant in
    let b = rw (c.in-Ok.is, i.log, i.to) at c.in-Some.ensures.steps in
    let m = c.make_room-high.ensures in
    let g = going_made r.0 i.going m.makes in
    (omega (arith, b.head.whole.fits, b.head.whole.sized), r.2, rw (m.alike.addresses, m.alike.values) g.cells, rw m.alike.addresses g.late)

pub returns-then-is_wrong-clause-gathers : goal.returns-then-is_wrong-clause-gathers
returns-then-is_wrong-clause-gathers c =
    let r = c.requires in
    let i = c.loop-record.invariant in
    let b = rw (c.in-Ok.is, i.log, i.to) at c.in-Some.ensures.steps in
    let m = c.make_room-high.ensures in
    let k = c.is_wrong.ensures in
    let g = going_made r.0 i.going m.makes in
    record {
      above = g.going.above;
      below = g.going.below;
      within = rw b.place g.going.within;
      half = λ z. rw (k.count, k.kept.cells.room) (g.going.half z);
      gathered = λ rs w. rw b.place (onward-wrong (g.going.on rs w) _ (rw b.place at b.head) r.0.ends (rw b.place at b.before) (rw (b.place, m.alike.addresses, m.alike.values) at k.touches) c.if-is_wrong.true);
    }

pub loop-record-preserved : goal.loop-record-preserved
loop-record-preserved c =
    let r = c.requires in
    let i = c.loop-record.invariant in
    let b = rw (c.in-Ok.is, i.log, i.to) at c.in-Some.ensures.steps in
    let m = c.make_room-high.ensures in
    let k = c.is_wrong.ensures in
    let g = going_made r.0 i.going m.makes in
    record {
      can = c.in-Some.ensures.goes.keeps;
      finite = tt;
      log = b.log;
      to = b.to;
      going =
          rw (b.goes, b.next, b.place)
          (going_next _ (rw b.place at b.head) r.0 (rw b.place at b.before) g (rw (b.place, m.alike.addresses, m.alike.values) at k.touches) c.if-is_wrong.false k.count k.kept.cells.room k.kept.cells.pair
          (k.kept.late.room ∙ m.kept.late.room) (k.kept.late.pair ∙ m.kept.late.pair));
      kept = table_on i.kept (table_on m.kept k.kept);
    }

pub returns-clause-gathers : goal.returns-clause-gathers
returns-clause-gathers c =
    let i = c.loop-record.invariant in
    let b = rw i.to at c.in-None.ensures.steps in
    let e : c.loop-record.record-iterator.at ≡ c.args.to = omega (arith, b, i.going.within) in
    record {
      above = i.going.above;
      below = i.going.below;
      within = omega arith;
      half = i.going.half;
      gathered = λ rs w. rw e at (onward_end (i.going.on rs w) b);
    }
