use Rattle.std.proofs.Common.{take}
use Rattle.std.specs.Fmt.{HasWritten, IsPlainFormatter}
use Rattle.job.specs.Printed.{out_lines}
use Rattle.job.proofs.listing.OutLinesDisplay.fmt.Given as goal

abbrev pub invariant-loop-word : goal.invariant-loop-word
invariant-loop-word g l = IsPlainFormatter l.initial.f → HasWritten g.W.Write.write_str_gives l.initial.f (out_lines (take l.word-index l.word-items)) l.f
