use Rattle.std.proofs.Common.{◌≡◌, List, ℕ, ◌++◌}
use Rattle.std.specs.Fmt.{HasWritten, IsPlainFormatter}
use Rattle.job.specs.LogLines.{log_lines}
use Rattle.job.proofs.log_lines.StackLinesDisplay.fmt.Given as goal

abbrev pub invariant-loop-record : goal.invariant-loop-record
invariant-loop-record g l =
    IsPlainFormatter l.initial.f → (text : List ℕ) × HasWritten g.W.Write.write_str_gives l.initial.f text l.f × (text ++ log_lines l.record-iterator.0.now ≡ log_lines l.self.0.now)
