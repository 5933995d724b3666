use Rattle.std.proofs.Common.{◌∙◌, ap}
use Rattle.machine.specs.Effect.{puts}
use Rattle.machine_effects.proofs.Effects.{acts_as}
use Rattle.machine_arithmetic.proofs.arithmetic.put.Goals as goal

pub returns : goal.returns
returns c = acts_as _ (c.puts.ensures ∙ ap (puts c.args.pops) c.of.ensures.words)
