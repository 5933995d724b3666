use Rattle.std.proofs.Common.{◌++◌, refl, rules}
use Rattle.std.proofs.Output.{has_written_of_eq, has_written_append}
use Rattle.job.specs.LogLinesView.{text_of}
use Rattle.job.proofs.LogLinesLaws.{lines-next, lines-last}
use Rattle.job.proofs.log_lines.StackLinesDisplay.fmt.Goals as goal

pub loop-record-preserved : goal.loop-record-preserved
loop-record-preserved g c p =
    let i = c.loop-record.invariant p in
    let s = c.in-Some.ensures.steps in
    (i.0 ++ text_of c.in-Some.record, has_written_append _ _ _ _ _ _ i.1 (search rules), lines-next _ _ i.0 _ _ refl s.0 s.1 s.2 _ i.2)

pub returns-clause-writes : goal.returns-clause-writes
returns-clause-writes g c p q =
    let i = c.loop-record.invariant p in
    has_written_of_eq _ _ _ _ _ (lines-last _ _ _ c.in-None.ensures.steps.0 i.2) i.1
