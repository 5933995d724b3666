use Rattle.std.proofs.Common.{◌*◌}
use Rattle.machine_log.specs.Logged.{WroteAny, ram_records}
use Rattle.machine_log.proofs.calls.log_row.Given as goal

abbrev pub invariant-loop-access : goal.invariant-loop-access
invariant-loop-access l = WroteAny l.initial.b l.b l.at (ram_records l.clock l.direction l.accesses l.access-index) (25 * l.access-index) l.next
