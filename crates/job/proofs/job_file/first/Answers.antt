use Rattle.std.proofs.Common.{refl}
use Rattle.job.proofs.JobFileLaws.{piece_is}
use Rattle.job.proofs.job_file.first.Goals as goal

pub returns : goal.returns
returns c = piece_is _ _ _ _ c.whole.ensures c.unwrap_or.ensures refl refl
