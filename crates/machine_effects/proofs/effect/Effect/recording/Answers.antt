use Rattle.machine_effects.specs.EffectView.{effect_of}
use Rattle.machine_effects.proofs.effect.Effect.recording.Goals as goal

pub returns : goal.returns
unfolding effect_of
returns c = rw c.none.ensures
