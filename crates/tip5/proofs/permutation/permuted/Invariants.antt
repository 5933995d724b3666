use Rattle.std.proofs.Common.{◌≡◌}
use Rattle.tip5.specs.Permutation.{state_of}
use Rattle.tip5.proofs.permutation.permuted.Given as goal

abbrev pub invariant-loop-r : goal.invariant-loop-r
invariant-loop-r l = l.s ≡ state_of l.r l.initial.s
