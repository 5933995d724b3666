use Rattle.std.proofs.Common.{refl, arith}
use Rattle.machine.specs.FeeTable.{wide1}
use Rattle.machine.proofs.Refused.{handed_on, number_a_some}
use Rattle.machine_fees.proofs.FeeLaws.{wide_more, wide_found}
use Rattle.machine_fees.proofs.fee_table.check_narrow.Goals as goal

pub loop-fee-init : goal.loop-fee-init
unfolding wide1
loop-fee-init c = refl

pub returns-in_err-check_at_most : goal.returns-in_err-check_at_most
returns-in_err-check_at_most c =
    handed_on _ _ _ _ _ c.from_residual.ensures.1 (wide_found _ _ _ _ c.loop-fee-test.true c.loop-fee.invariant (omega arith) c.in_err-check_at_most.ensures (number_a_some _))

pub loop-fee-preserved : goal.loop-fee-preserved
loop-fee-preserved c = wide_more _ _ c.loop-fee.invariant c.in_ok-check_at_most.ensures
