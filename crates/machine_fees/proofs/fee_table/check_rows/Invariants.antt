use Rattle.std.proofs.Common.{◌≡◌}
use Rattle.machine.specs.FeeTable.{turned64}
use Rattle.machine_fees.specs.FeeView.{table_of}
use Rattle.machine_fees.proofs.fee_table.check_rows.Given as goal

-- no row so far is turned
abbrev pub invariant-loop-k : goal.invariant-loop-k
invariant-loop-k l = turned64 (table_of l.table) l.k ≡ 0
