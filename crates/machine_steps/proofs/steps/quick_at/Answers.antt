use Rattle.machine_steps.proofs.StepsLaws.{walks_bare, quick_lent}
use Rattle.machine_steps.proofs.steps.quick_at.Goals as goal

pub quick_in-requires : goal.quick_in-requires
quick_in-requires c = walks_bare c.requires

pub returns-clause-quicked : goal.returns-clause-quicked
returns-clause-quicked c = quick_lent _ _ _ c.quick_in.ensures
