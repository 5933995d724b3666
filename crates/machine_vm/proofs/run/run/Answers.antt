use Rattle.machine_vm.proofs.RunLaws.{runs_by}
use Rattle.machine_vm.proofs.run.run.Goals as goal

pub returns-clause-runs : goal.returns-clause-runs
returns-clause-runs c = runs_by _ _ _ _ _ c.call.ensures.calls
