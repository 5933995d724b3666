use Rattle.std.proofs.Common.{◌∙◌}
use Rattle.job.proofs.KindLaws.{same-number}
use Rattle.job.proofs.job_file.same_kind.Goals as goal

pub returns : goal.returns
returns c = c.eq.ensures ∙ same-number c.args.a c.args.b
