use Rattle.std.proofs.Common.{refl, ap}
use Rattle.machine.specs.FeeTable.{turned64}
use Rattle.machine.proofs.Refused.{handed_on}
use Rattle.machine_fees.proofs.FeeLaws.{rows_many, rows_found, rows_end, turned_more}
use Rattle.machine_fees.proofs.fee_table.check_rows.Goals as goal

pub returns-then-table-gt64 : goal.returns-then-table-gt64
returns-then-table-gt64 c = rows_many _ c.if-table-gt64.true

pub loop-k-init : goal.loop-k-init
unfolding turned64
loop-k-init c = refl

pub returns-in_err-check_row : goal.returns-in_err-check_row
returns-in_err-check_row c =
    handed_on _ _ _ _ _ c.from_residual.ensures.1 (rows_found _ _ _ c.if-table-gt64.false c.requires.lowest c.loop-k-test.true c.loop-k.invariant c.in_err-check_row.ensures)

pub loop-k-preserved : goal.loop-k-preserved
loop-k-preserved c = turned_more _ _ c.loop-k.invariant (ap (λ x. x.number) c.in_ok-check_row.ensures)

pub returns : goal.returns
returns c = rows_end _ _ c.if-table-gt64.false c.requires.lowest c.loop-k.auto.k-end c.loop-k-test.false c.loop-k.invariant
