use Rattle.std.proofs.Common.{◌∙◌, ap}
use Rattle.machine.specs.Effect.{puts}
use Rattle.machine.specs.Stack.{push_of}
use Rattle.machine_effects.proofs.Effects.{acts_as}
use Rattle.machine_effects.proofs.stack.push.Goals as goal

pub returns : goal.returns
unfolding push_of
returns c = acts_as _ (c.puts.ensures ∙ ap (puts 0) c.of.ensures.words)
