use Rattle.std.proofs.Common.{ℕ, lit<}
use Rattle.tip5.proofs.Tab.{zeros_at}
use Rattle.tip5_vectors.proofs.vectors.varlen_sum.Goals as goal

pub loop-n-init : goal.loop-n-init
loop-n-init c = λ (k : ℕ). rw (zeros_at 5 k) (lit< tt)
