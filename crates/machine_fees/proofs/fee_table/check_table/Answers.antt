use Rattle.machine_fees.proofs.FeeLaws.{table_rows, table_opcodes}
use Rattle.machine_fees.proofs.fee_table.check_table.Goals as goal

pub returns-in_err-check_rows : goal.returns-in_err-check_rows
returns-in_err-check_rows c = table_rows _ _ _ _ c.in_err-check_rows.ensures c.from_residual.ensures.1

pub returns : goal.returns
returns c = table_opcodes _ _ _ c.in_ok-check_rows.ensures c.price_opcodes.ensures
