use Rattle.std.proofs.Common.{◌≡◌, ◌*◌, ◌≤◌}
use Rattle.tip5.specs.Split.{dot_of}
use Rattle.tip5.proofs.matrix.dot.Given as goal

abbrev pub invariant-loop-j : goal.invariant-loop-j
invariant-loop-j g l = (l.sum ≤ l.j * (0x1f_ffff * 0x3_ffff_ffff)) × (l.sum ≡ dot_of l.at l.x l.j)
