use Rattle.std.proofs.Common.{refl, sym, rules}
use Rattle.job.proofs.JobFileLaws.{length-unknown}
use Rattle.job.proofs.job_file.KindTryFromU64.try_from.Goals as goal

pub returns-in_default : goal.returns-in_default
returns-in_default c = (refl, sym (length-unknown _ (search rules) (search rules) (search rules) (search rules) (search rules) (search rules) (search rules)))
