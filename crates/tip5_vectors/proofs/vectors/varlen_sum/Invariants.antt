use Rattle.tip5.specs.Words.{Words}
use Rattle.tip5_vectors.proofs.vectors.varlen_sum.Given as goal

abbrev pub invariant-loop-n : goal.invariant-loop-n
invariant-loop-n l = Words l.sum
