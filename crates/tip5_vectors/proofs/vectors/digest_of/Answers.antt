use Rattle.tip5.proofs.hash.Laws.{hash-varlen-words}
use Rattle.tip5_vectors.proofs.vectors.digest_of.Goals as goal

pub returns : goal.returns
returns c = record { words = rw c.hash_varlen.ensures (hash-varlen-words _) }
