use Rattle.machine.specs.Hashing.{reversed}
use Rattle.machine_hashing.proofs.hashing.digest.Goals as goal

pub returns : goal.returns
unfolding reversed
returns c = rw c.last_state-s.ensures
