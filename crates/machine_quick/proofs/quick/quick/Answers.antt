use Rattle.machine_quick.proofs.QuickLaws.{walks_bare, quick_lent}
use Rattle.machine_quick.proofs.quick.quick.Goals as goal

pub quick_of-requires : goal.quick_of-requires
quick_of-requires c = walks_bare c.requires

pub returns-clause-quicked : goal.returns-clause-quicked
returns-clause-quicked c = quick_lent _ _ _ c.quick_of.ensures
