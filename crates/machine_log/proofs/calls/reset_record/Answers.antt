use Rattle.machine_log.proofs.Logged.{reset-written, number_put}
use Rattle.machine_log.proofs.calls.reset_record.Goals as goal

pub returns : goal.returns
returns c = reset-written _ _ (number_put 4 65538 _ _ c.put.ensures c.to_le_bytes.ensures)
