use Rattle.std.proofs.Common.{◌∙◌, ap, ◌%◌}
use Rattle.machine_log.specs.Logged.{logged}
use Rattle.machine_log.proofs.Logged.{number_put, bytes_two}
use Rattle.machine_log.proofs.calls.put_opcode.Goals as goal

pub returns : goal.returns
returns c = number_put 2 (c.args.opcode % 65536) _ _ c.put.ensures c.to_le_bytes.ensures ∙ ap (logged c.args.b.now c.args.at) (bytes_two c.args.opcode)
