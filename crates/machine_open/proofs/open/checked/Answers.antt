use Rattle.std.proofs.Common.{rules}
use Rattle.machine_fees.proofs.FeeLaws.{behind_a}
use Rattle.machine_open.proofs.OpenLaws.{open_number, open_deep, open_took, open_kept}
use Rattle.machine_open.proofs.open.checked.Goals as goal

pub returns-in_err-check_fees_behind-clause-opens : goal.returns-in_err-check_fees_behind-clause-opens
returns-in_err-check_fees_behind-clause-opens c =
    open_kept _ _ _ _ _ _ (open_number _ _ _ _ c.look.ensures c.check_open-handed.ensures) _ _ (behind_a c.in_err-check_fees_behind.ensures) c.from_residual.ensures.1

pub open_stack-requires : goal.open_stack-requires
open_stack-requires c = open_deep _ _ _ _ _ _ (open_number _ _ _ _ c.look.ensures c.check_open-handed.ensures) (behind_a c.in_ok-check_fees_behind.ensures)

pub returns-clause-opens : goal.returns-clause-opens
returns-clause-opens c =
    open_took _ _ _ _ _ _ (open_number _ _ _ _ c.look.ensures c.check_open-handed.ensures) (behind_a c.in_ok-check_fees_behind.ensures) c.registers.ensures c.open_stack.ensures (search rules) (search rules)
