use native.Mathlib.Omega.{arith}
use Rattle.replay_table.proofs.MergeLaws.{merges_start, merges-top, merges-left, merges_turn, merges_end}
use Rattle.replay_table.proofs.merge.merge_slices.Goals as goal

pub loop-j-init : goal.loop-j-init
loop-j-init c = merges_start _ _ _ c.requires

pub top-t-requires : goal.top-t-requires
top-t-requires c =
    merges-top _ _ _ c.requires c.loop-j.invariant c.loop-j-test.true

pub bounds-addresses-at : goal.bounds-addresses-at
bounds-addresses-at c = (merges-left _ _ _ c.requires c.loop-j.invariant c.loop-j-test.true).1

pub bounds-values-at : goal.bounds-values-at
bounds-values-at c = (merges-left _ _ _ c.requires c.loop-j.invariant c.loop-j-test.true).2

pub loop-j-smaller : goal.loop-j-smaller
loop-j-smaller c = omega (arith, (merges-left _ _ _ c.requires c.loop-j.invariant c.loop-j-test.true).0)

pub loop-j-preserved : goal.loop-j-preserved
loop-j-preserved c =
    merges_turn _ _ _ c.requires c.loop-j.invariant c.loop-j-test.true c.top-t.ensures

pub returns : goal.returns
returns c = merges_end _ _ _ c.requires c.loop-j.invariant c.loop-j-test.false

pub overflow_sub-at : goal.overflow_sub-at
overflow_sub-at c = (merges-left _ _ _ c.requires c.loop-j.invariant c.loop-j-test.true).0

pub offset_bounds-addresses-at : goal.offset_bounds-addresses-at
offset_bounds-addresses-at c = omega (arith, (merges-left _ _ _ c.requires c.loop-j.invariant c.loop-j-test.true).1)

pub offset_bounds-values-at : goal.offset_bounds-values-at
offset_bounds-values-at c = omega (arith, (merges-left _ _ _ c.requires c.loop-j.invariant c.loop-j-test.true).1)
