use Rattle.job.proofs.LogLinesLaws.{line-none}
use Rattle.job.proofs.log_lines.parsed.Goals as goal

pub returns-else-kind-eq4 : goal.returns-else-kind-eq4
returns-else-kind-eq4 c = line-none _ _ c.if-kind-eq4.false
