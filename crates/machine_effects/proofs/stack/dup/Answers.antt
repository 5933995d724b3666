use Rattle.std.proofs.Common.{◌∙◌, ap}
use Rattle.machine.specs.Effect.{puts}
use Rattle.machine.specs.Stack.{dup_of}
use Rattle.machine_effects.proofs.Effects.{acts_as}
use Rattle.machine_effects.proofs.stack.dup.Goals as goal

pub returns : goal.returns
unfolding dup_of
returns c = rw (acts_as _ (c.puts.ensures ∙ ap (puts 0) c.of.ensures.words), c.st.ensures)
