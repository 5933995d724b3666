use mathlib.Core.Path.{sym}
use mathlib.Core.List.{[], ◌∷◌}
use Rattle.machine_decide.specs.DecideView.{hashes}
use Rattle.machine_decide.proofs.DecideLaws.{one_is, one_not}
use Rattle.machine_decide.proofs.decide.hashes.Goals as goal

pub returns-in-18 : goal.returns-in-18
unfolding hashes
returns-in-18 c = sym (one_is (18 ∷ 34 ∷ 36 ∷ 40 ∷ 44 ∷ 48 ∷ 56 ∷ []) _ c.in-18.is)

pub returns-in_default : goal.returns-in_default
unfolding hashes
returns-in_default c = sym (one_not (18 ∷ 34 ∷ 36 ∷ 40 ∷ 44 ∷ 48 ∷ 56 ∷ []) _ c.in_default.in_default-own.rest.1)
