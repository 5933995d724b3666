use Rattle.machine_fees.specs.FeeView.{table_of}
use Rattle.machine_fees.proofs.FeeLaws.{Passed}
use Rattle.machine_fees.proofs.fee_table.price_opcodes.Given as goal

-- what is found and priced of the opcodes so far
abbrev pub invariant-loop-opcode : goal.invariant-loop-opcode
invariant-loop-opcode l = Passed (table_of l.table) l.gap l.twice l.opcode l.prices
