use Rattle.std.proofs.Common.{refl, arith}
use Rattle.machine_fees.proofs.FeeLaws.{count_none, count_in, count_out, count_all}
use Rattle.machine_fees.proofs.fee_table.LentFees.find_row.Goals as goal
use Rattle.machine_fees.proofs.fee_table.LentFees.find_row.Goals.{then-covers, else-covers}

pub loop-k-init : goal.loop-k-init
loop-k-init c = count_none _ _

pub loop-k-preserved : goal.loop-k-preserved
loop-k-preserved c =
    elim c.if-covers.branch [
      | then-covers w ↦ rw (w.times-is, w.row-is) (count_in _ _ _ _ _ _ c.loop-k.invariant c.covers.ensures w.if-covers.true)
      | else-covers w ↦ rw (w.times-is, w.row-is) (count_out _ _ _ _ _ _ c.loop-k.invariant c.covers.ensures w.if-covers.false)
    ]

pub returns : goal.returns
returns c = count_all _ _ _ _ _ _ _ c.loop-k.invariant (omega (arith, c.loop-k.auto.k-end, c.loop-k-test.false)) refl refl
