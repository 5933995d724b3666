use Rattle.std.proofs.Common.{false, ℕ, ◌+◌, get_or}
use Rattle.tip5.specs.Split.{pair_of}
use Rattle.tip5.proofs.Tab.{Filled}
use Rattle.tip5.proofs.matrix.sums.Given as goal

abbrev pub invariant-loop-j : goal.invariant-loop-j
invariant-loop-j g l = Filled (λ (j : ℕ). pair_of false (get_or l.x j 0) (get_or l.x (j + g.row.N) 0)) l.out g.row.N l.j
