use Rattle.machine.specs.Stack.{pop_of}
use Rattle.machine_effects.proofs.Effects.{acts_as}
use Rattle.machine_effects.proofs.stack.pop.Goals as goal

pub returns : goal.returns
unfolding pop_of
returns c = acts_as _ c.takes_off.ensures
