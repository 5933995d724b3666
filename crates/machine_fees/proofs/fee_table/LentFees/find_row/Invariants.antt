use Rattle.std.proofs.Common.{[]}
use Rattle.machine.specs.FeeTable.{fee_table}
use Rattle.machine_fees.proofs.FeeLaws.{Counted}
use Rattle.machine_fees.proofs.fee_table.LentFees.find_row.Given as goal

-- count and last row of the rows so far
abbrev pub invariant-loop-k : goal.invariant-loop-k
invariant-loop-k l = Counted (fee_table l.self.lowest.now l.self.highest.now []) l.opcode l.k l.times l.row
