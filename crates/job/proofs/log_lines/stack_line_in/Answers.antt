use Rattle.job.proofs.LogLinesLaws.{stack-line-is}
use Rattle.job.proofs.log_lines.stack_line_in.Goals as goal

pub returns : goal.returns
returns c = stack-line-is c.args.bytes.now _ _ _ _ c.number_in.ensures.0 c.number_in-2.ensures.0 c.direction.ensures c.number_in-3.ensures.0
