use Rattle.std.proofs.Common.{◌≡◌, ◌+◌, ◌*◌, take, length}
use Rattle.tip5.specs.Permutation.{state_of, states_of}
use Rattle.tip5.proofs.permutation.trace.Given as goal

abbrev pub invariant-loop-r : goal.invariant-loop-r
invariant-loop-r l = (length l.out ≡ 96) × (l.s ≡ state_of l.r l.initial.s) × (take (16 * l.r + 16) l.out ≡ states_of l.r l.initial.s)
