use Rattle.std.proofs.Common.{◌+◌, ap}
use Rattle.machine.specs.Effect.{Effect, pushes}
use Rattle.machine.specs.Control.{call_of}
use Rattle.machine_effects.specs.EffectView.{effect_of}
use Rattle.machine_effects.proofs.Effects.{acts_as}
use Rattle.machine_effects.proofs.control.call.Goals as goal

pub returns : goal.returns
unfolding call_of effect_of
returns c = acts_as _ (ap {A = Effect} (λ e. record e { jump = pushes (c.args.pointer + 2) c.args.destination }) c.goes.ensures)
