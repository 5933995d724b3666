use Prim.Native.Nat.{◌<◌}
use native.Mathlib.Omega.{arith}
use lib.ListN.{length-take}
use lib.Seq.{get_or-take}
use Rattle.replay_table.proofs.MergeLaws.{counted_none, counted-more}
use Rattle.replay_table.proofs.cells.lacked_seen.Goals as goal

pub loop-address-init : goal.loop-address-init
loop-address-init c = counted_none _ _ _

pub loop-address-preserved : goal.loop-address-preserved
loop-address-preserved c =
    let a = c.args in
    let h : c.loop-address.address-index < a.from.now.count = omega (arith, c.loop-address-test.true, length-take a.from.now.count a.from.now.addresses.now) in
    counted-more _ _ _ _ _ _ c.loop-address.invariant (rw (get_or-take a.from.now.count a.from.now.addresses.now c.loop-address.address-index 0 h) at c.lacks-new.ensures)
