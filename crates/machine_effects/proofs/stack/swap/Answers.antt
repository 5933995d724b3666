use Rattle.std.proofs.Common.{◌∙◌, ap}
use Rattle.machine.specs.Effect.{puts}
use Rattle.machine.specs.Stack.{swap_of, swapped}
use Rattle.machine_effects.proofs.Effects.{acts_as}
use Rattle.machine_effects.proofs.stack.swap.Goals as goal

pub returns : goal.returns
unfolding swap_of swapped
returns c = rw (acts_as _ (c.puts.ensures ∙ ap (puts 16) c.of.ensures.words), c.st.ensures, c.st-2.ensures)
