use Rattle.std.proofs.Common.{◌≡◌}
use Rattle.tip5.specs.Hash.{padded_of, absorbed}
use Rattle.tip5.proofs.hash.hash_varlen.Given as goal

abbrev pub invariant-loop-n : goal.invariant-loop-n
invariant-loop-n l = l.sponge ≡ absorbed l.n (padded_of l.input)
