use Rattle.std.proofs.Common.{◌≡◌}
use Rattle.machine.specs.FeeTable.{wide1}
use Rattle.machine_fees.proofs.fee_table.check_narrow.Given as goal

-- no fee so far is wide
abbrev pub invariant-loop-fee : goal.invariant-loop-fee
invariant-loop-fee l = wide1 l.fees l.fee-index ≡ 0
