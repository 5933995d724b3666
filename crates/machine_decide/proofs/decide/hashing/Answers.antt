use Rattle.std.proofs.Common.{refl}
use Rattle.machine_decide.proofs.DecideLaws.{shows-alike-hash}
use Rattle.machine_decide.proofs.decide.hashing.Goals as goal

pub act_hashing-requires-clause-words : goal.act_hashing-requires-clause-words
act_hashing-requires-clause-words c = c.hand_over_hash-h.ensures.reliable

pub act_hashing-requires-clause-hashing : goal.act_hashing-requires-clause-hashing
act_hashing-requires-clause-hashing c = rw (← c.hand_over_hash-h.ensures.slot) c.requires.hashing

pub returns : goal.returns
returns c =
    record {
      is = λ n a u x f t o. rw c.hand_over_hash-h.ensures.slot (c.act_hashing.ensures.is n _ (shows-alike-hash _ _ a u x f t o c.hand_over_hash-h.ensures.shows) refl);
    }
