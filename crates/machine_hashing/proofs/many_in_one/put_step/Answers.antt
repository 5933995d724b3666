use Rattle.std.proofs.Common.{ap}
use Rattle.machine.specs.Effect.{Effect}
use Rattle.machine_effects.specs.EffectView.{effect_of}
use Rattle.machine_hashing.proofs.many_in_one.put_step.Goals as goal

pub returns : goal.returns
unfolding effect_of
returns c = ap {A = Effect} (λ e. record e { digests = c.args.digests }) (rw c.new-call.ensures at c.recording.ensures)
