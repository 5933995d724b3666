use Rattle.std.proofs.Common.{refl}
use Rattle.job.proofs.JobFileLaws.{wanted_budget, filled_one, budget_few}
use Rattle.job.proofs.job_file.budget_of.Goals as goal

pub fill-requires : goal.fill-requires
fill-requires c = wanted_budget _ _ c.requires refl

pub returns : goal.returns
returns c = filled_one _ _ _ _ c.fill.ensures (budget_few _ c.requires)
