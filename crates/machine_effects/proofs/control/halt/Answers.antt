use Rattle.std.proofs.Common.{ap, true}
use Rattle.machine.specs.Effect.{Effect}
use Rattle.machine.specs.Control.{halt_of}
use Rattle.machine_effects.specs.EffectView.{effect_of}
use Rattle.machine_effects.proofs.Effects.{acts_as}
use Rattle.machine_effects.proofs.control.halt.Goals as goal

pub returns : goal.returns
unfolding halt_of effect_of
returns c = acts_as _ (ap {A = Effect} (λ e. record e { halts = true }) c.takes_off.ensures)
