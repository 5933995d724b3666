use Rattle.std.proofs.Common.{refl}
use Rattle.job.proofs.JobFileLaws.{wanted_digest, filled-all, digest_long}
use Rattle.job.proofs.job_file.digest_of.Goals as goal

pub fill-requires : goal.fill-requires
fill-requires c = wanted_digest _ _ c.requires refl

pub returns : goal.returns
returns c = filled-all _ _ _ _ c.fill.ensures (digest_long _ c.requires)
