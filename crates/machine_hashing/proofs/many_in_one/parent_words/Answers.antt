use Rattle.machine.specs.Hashing.{reversed}
use Rattle.machine_hashing.proofs.many_in_one.parent_words.Goals as goal

pub returns : goal.returns
unfolding reversed
returns c = rw c.last_state-s.ensures
