use Rattle.std.proofs.Common.{ap}
use Rattle.machine.specs.Effect.{Effect, to}
use Rattle.machine_effects.specs.EffectView.{effect_of}
use Rattle.machine_effects.proofs.effect.Effect.goes.Goals as goal

pub returns : goal.returns
unfolding effect_of
returns c = ap {A = Effect} (λ e. record e { next = to c.args.target }) c.takes_off.ensures
