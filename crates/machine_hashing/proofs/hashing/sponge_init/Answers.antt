use Rattle.std.proofs.Common.{ap, replicate, true, ◌∷◌}
use Rattle.machine.specs.Effect.{becomes, reset}
use Rattle.machine.specs.Hashing.{sponge_init_of}
use Rattle.machine_hashing.specs.HashedView.{with_sponge}
use Rattle.machine_hashing.proofs.HashedLaws.{hashed-acts}
use Rattle.machine_hashing.proofs.hashing.sponge_init.Goals as goal

pub returns : goal.returns
unfolding sponge_init_of
returns c = hashed-acts _ (rw c.init.ensures (ap (λ e. with_sponge e (becomes (record { words = replicate 16 0; set = true })) (reset ∷ e.calls)) c.takes_off.ensures))
