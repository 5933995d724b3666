use Rattle.machine_fees.proofs.FeeLaws.{shaped, hands_error, hands_nothing, fees_slices, fees_behind, fees_table}
use Rattle.machine_fees.proofs.fee_table.check_fees_behind.Goals as goal

pub returns-in_err-check_slices-in-Some : goal.returns-in_err-check_slices-in-Some
returns-in_err-check_slices-in-Some g c = record {
  at = λ n k. rw c.in-Some.is (fees_slices _ n _ _ _ c.in_err-check_slices-in-Some.ensures c.from_residual-in_err-check_slices-in-Some.ensures.1);
}

pub returns-in_err-hand_on-in-Some : goal.returns-in_err-hand_on-in-Some
returns-in_err-hand_on-in-Some g c = record {
  at = λ n k.
      let e = hands_error g.E.Into.converts n c.args.handed _ c.in_err-hand_on-in-Some.ensures k in
      rw c.in-Some.is (fees_behind _ n _ _ _ c.in_ok-check_slices-in-Some.ensures e c.from_residual-in_err-hand_on-in-Some.ensures.1);
}

pub check_table-requires-clause-shaped : goal.check_table-requires-clause-shaped
check_table-requires-clause-shaped g c = shaped _ c.in_ok-check_slices-in-Some.ensures

pub returns-in_err-check_table-in-Some : goal.returns-in_err-check_table-in-Some
returns-in_err-check_table-in-Some g c = record {
  at = λ n k.
      let e = hands_nothing g.E.Into.converts n c.args.handed _ c.in_ok-hand_on-in-Some.ensures k in
      rw c.in-Some.is (fees_table _ n _ _ _ c.in_ok-check_slices-in-Some.ensures e c.in_err-check_table-in-Some.ensures c.from_residual-in_err-check_table-in-Some.ensures.1);
}
