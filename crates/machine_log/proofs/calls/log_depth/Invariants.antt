use Rattle.std.proofs.Common.{◌*◌}
use Rattle.machine_log.specs.Logged.{WroteAny}
use Rattle.machine_log.proofs.Logged.{row_of}
use Rattle.machine_log.proofs.calls.log_depth.Given as goal

abbrev pub invariant-loop-i : goal.invariant-loop-i
invariant-loop-i l = WroteAny l.initial.b l.b l.at (row_of l.clock l.stack l.depth l.after l.i) (25 * l.i) l.next
