use Prim.Native.Nat.{ℕ, ◌/◌}
use native.Mathlib.Omega.{arith}
use mathlib.Core.Path.{◌≡◌, sym, ap}
use Rattle.machine.specs.Words.{p}
use Rattle.replay_table.proofs.KeptLaws.{table_same, table_on}
use Rattle.replay_group.proofs.SweepLaws.{grouping-none, grouping-fits, grouping-few, grouping-more, lent_again, sweep_walked, swept_all, swept-whole, walked-ends}
use Rattle.replay_group.proofs.group.sweep_all_seen.Goals as goal

pub loop-low-init : goal.loop-low-init
loop-low-init c =
    record { below = omega arith; within = omega arith; kept = table_same _; grouping = λ rs w. grouping-none _ _ _ _ _ w }

pub group_from_seen-group-requires : goal.group_from_seen-group-requires
group_from_seen-group-requires c =
    let r = c.requires in
    let l = c.loop-low.invariant in
    let k = l.kept in
    let g = l.grouping r.0.records r.0.walk in
    (sweep_walked r.0.ends l.within g.sweeping, c.loop-low-test.true, r.1, lent_again r.2 k.cells.room k.cells.pair k.late.room k.late.pair)

pub lacked_seen-cells-requires : goal.lacked_seen-cells-requires
lacked_seen-cells-requires c =
    let r = c.requires in
    let g = c.loop-low.invariant.grouping r.0.records r.0.walk in
    let d = c.group_from_seen-group.ensures.gathers.gathered g.sweeping.done g.sweeping.walk in
    let s = c.look-written.ensures in
    record { ordered = r.1.usable.ordered; within = rw (s.addresses, s.count) d.table.cells.table.usable.ordered.within }

pub loop-low-smaller : goal.loop-low-smaller
loop-low-smaller c =
    let d = c.group_from_seen-group.ensures.gathers in
    omega (arith, d.above, d.below)

pub loop-low-preserved : goal.loop-low-preserved
loop-low-preserved c =
    let l = c.loop-low.invariant in
    let d = c.group_from_seen-group.ensures.gathers in
    let k = table_on l.kept c.group_from_seen-group.ensures.kept in
    let s = c.look-written.ensures in
    let m = rw (s.addresses, s.count) at c.lacked_seen-cells.ensures in
    record {
      below = d.below;
      within = omega (arith, d.within, l.within);
      kept = k;
      grouping =
          λ rs w.
          let g = l.grouping rs w in
          grouping-more _ w g d.above (d.gathered g.sweeping.done g.sweeping.walk) (m.is _ _) l.within d.within c.loop-low-test.true d.below (λ z. omega (arith, d.half z, k.cells.room));
    }

pub returns-clause-sweeps : goal.returns-clause-sweeps
returns-clause-sweeps c =
    let l = c.loop-low.invariant in
    let e : c.loop-low.low ≡ p = omega (arith, l.below) in
    record {
      within = l.within;
      swept = λ rs w. swept_all _ (ap (λ (x : ℕ). x / 2) (sym l.kept.cells.room)) (rw e at (l.grouping rs w));
      whole = λ i j rs w. swept-whole w j i (rw e at (l.grouping rs w));
    }

pub overflow_add-cells : goal.overflow_add-cells
overflow_add-cells c =
    let r = c.requires in
    let l = c.loop-low.invariant in
    let g = l.grouping r.0.records r.0.walk in
    let d = c.group_from_seen-group.ensures.gathers in
    let s = c.look-written.ensures in
    let m = rw (s.addresses, s.count) at c.lacked_seen-cells.ensures in
    omega (arith, grouping-fits _ r.0.walk g d.above (d.gathered g.sweeping.done g.sweeping.walk) (m.is _ _), walked-ends r.0, c.ranges)

pub overflow_add-groups : goal.overflow_add-groups
overflow_add-groups c =
    let r = c.requires in
    let l = c.loop-low.invariant in
    let g = l.grouping r.0.records r.0.walk in
    let d = c.group_from_seen-group.ensures.gathers in
    let s = c.look-written.ensures in
    let m = rw (s.addresses, s.count) at c.lacked_seen-cells.ensures in
    omega (arith, grouping-few _ r.0.walk g d.above (d.gathered g.sweeping.done g.sweeping.walk) (m.is _ _) (omega (arith, r.2.two)) c.loop-low-test.true, walked-ends r.0, c.ranges, c.well_formed)
