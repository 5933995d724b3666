use Rattle.std.proofs.Common.{◌∙◌, ap}
use Rattle.machine.specs.Effect.{puts}
use Rattle.machine.specs.Arithmetic.{mul_of}
use Rattle.machine_effects.proofs.Effects.{acts_as}
use Rattle.machine_arithmetic.proofs.arithmetic.mul.Goals as goal

pub returns : goal.returns
unfolding mul_of
returns c = acts_as _ (c.puts.ensures ∙ ap (puts 2) c.of.ensures.words) ∙ rw (c.mul.ensures, c.st.ensures, c.st-2.ensures)
