use Rattle.std.proofs.Common.{◌∙◌, ap}
use Rattle.machine.specs.Effect.{puts}
use Rattle.machine.specs.Arithmetic.{add_of}
use Rattle.machine_effects.proofs.Effects.{acts_as}
use Rattle.machine_arithmetic.proofs.arithmetic.add.Goals as goal

pub returns : goal.returns
unfolding add_of
returns c = acts_as _ (c.puts.ensures ∙ ap (puts 2) c.of.ensures.words) ∙ rw (c.add.ensures, c.word.ensures.value, c.word-2.ensures.value)
