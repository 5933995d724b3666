use Rattle.std.proofs.Common.{◌∙◌, ap}
use Rattle.machine.specs.Effect.{puts}
use Rattle.machine.specs.Arithmetic.{eq_of}
use Rattle.machine_effects.proofs.Effects.{acts_as}
use Rattle.machine_arithmetic.proofs.Bits.{bit-of}
use Rattle.machine_arithmetic.proofs.arithmetic.eq.Goals as goal

pub returns : goal.returns
unfolding eq_of
returns c = acts_as _ (c.puts.ensures ∙ ap (puts 2) c.of.ensures.words) ∙ rw (c.from.ensures, bit-of, c.st.ensures, c.st-2.ensures)
