use Rattle.machine_fees.proofs.FeeLaws.{behind_a}
use Rattle.machine_fees.proofs.fee_table.check_fees.Goals as goal

pub returns : goal.returns
returns c = behind_a c.check_fees_behind.ensures
