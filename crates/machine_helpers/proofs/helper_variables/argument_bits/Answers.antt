use mathlib.Core.Path.{refl}
use Rattle.machine.specs.HelperVariables.{argument_bits}
use Rattle.machine_helpers.proofs.helper_variables.argument_bits.Goals as goal

pub returns : goal.returns
unfolding argument_bits
returns c = refl
