use Rattle.std.proofs.Common.{ap}
use Rattle.machine.specs.Effect.{Effect, pops}
use Rattle.machine.specs.Refusal.{refusal_of}
use Rattle.machine.specs.Control.{return_of}
use Rattle.machine_effects.specs.EffectView.{effect_of}
use Rattle.machine_effects.proofs.Effects.{acts_as, exits, none_is}
use Rattle.machine_effects.proofs.control.return_from_call.Goals as goal

pub returns-in_err-entry : goal.returns-in_err-entry
unfolding return_of refusal_of
returns-in_err-entry c =
    let n = none_is c.args.top _ _ c.in_err-entry.ensures.value in
    rw (exits _ c.from_residual.result c.from_residual.ensures.1, n.0, n.1)

pub returns : goal.returns
unfolding return_of effect_of
returns c = rw c.in_ok-entry.ensures.ok_part (acts_as _ (ap {A = Effect} (λ e. record e { jump = pops }) c.goes.ensures))
