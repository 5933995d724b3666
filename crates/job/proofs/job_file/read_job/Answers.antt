use Rattle.std.proofs.Common.{refl, ◌∙◌}
use Rattle.job.proofs.JobFileLaws.{wanted-opcodes, wanted_arguments, wanted_public, wanted_secret, wanted_digests, wanted_addresses, wanted_values, job_good, breaks, filled-count, column-same}
use Rattle.job.proofs.job_file.read_job.Goals as goal

pub returns-in_err-checked-clause-job : goal.returns-in_err-checked-clause-job
returns-in_err-checked-clause-job c = breaks _ _ _ c.in_err-checked.ensures _ c.from_residual.ensures.0

pub fill-slots-requires : goal.fill-slots-requires
fill-slots-requires c = wanted-opcodes _ _ c.in_ok-checked.ensures c.requires.opcodes

pub fill-requires : goal.fill-requires
fill-requires c = wanted_arguments _ _ c.in_ok-checked.ensures c.requires.arguments

pub fill-publics-requires : goal.fill-publics-requires
fill-publics-requires c = wanted_public _ _ c.in_ok-checked.ensures c.requires.public

pub fill-secrets-requires : goal.fill-secrets-requires
fill-secrets-requires c = wanted_secret _ _ c.in_ok-checked.ensures c.requires.secret

pub fill-digests-requires : goal.fill-digests-requires
fill-digests-requires c = wanted_digests _ _ c.in_ok-checked.ensures c.requires.digests

pub fill-cells-requires : goal.fill-cells-requires
fill-cells-requires c = wanted_addresses _ _ c.in_ok-checked.ensures c.requires.addresses

pub fill-requires-2 : goal.fill-requires-2
fill-requires-2 c = wanted_values _ _ c.in_ok-checked.ensures c.requires.values

pub returns-clause-job : goal.returns-clause-job
returns-clause-job c = rw (job_good c.args.file.now c.in_ok-checked.ensures)
    (record {
      number = refl;
      digest = c.digest_of.ensures;
      opcodes = c.fill-slots.ensures;
      arguments = filled-count c.fill.ensures (c.fill-slots.ensures.count ∙ column-same 12 0 2 2 8 _);
      public = c.fill-publics.ensures;
      secret = c.fill-secrets.ensures;
      digests = c.fill-digests.ensures;
      addresses = c.fill-cells.ensures;
      values = filled-count c.fill-2.ensures (c.fill-cells.ensures.count ∙ column-same 16 0 8 8 8 _);
      budget = c.budget_of.ensures;
    })
