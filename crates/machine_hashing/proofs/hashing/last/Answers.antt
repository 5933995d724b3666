use Rattle.machine_hashing.proofs.hashing.last.Goals as goal

pub returns : goal.returns
returns c = rw c.last_state.ensures
