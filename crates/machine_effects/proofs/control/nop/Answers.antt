use Rattle.machine.specs.Control.{nop_of}
use Rattle.machine_effects.proofs.Effects.{acts_as}
use Rattle.machine_effects.proofs.control.nop.Goals as goal

pub returns : goal.returns
unfolding nop_of
returns c = acts_as _ c.takes_off.ensures
