use Rattle.std.proofs.Common.{◌≡◌, ◌-◌}
use Rattle.machine.specs.Hashing.{assert_from, assert_vector_of}
use Rattle.machine_hashing.proofs.hashing.assert_vector.Given as goal

abbrev pub invariant-loop-i : goal.invariant-loop-i
invariant-loop-i l = assert_from l.w.words l.i (5 - l.i) ≡ assert_vector_of l.w.words
