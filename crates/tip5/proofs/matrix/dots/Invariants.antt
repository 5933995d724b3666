use Rattle.tip5.specs.Split.{dots_of}
use Rattle.tip5.proofs.Tab.{Filled}
use Rattle.tip5.proofs.matrix.dots.Given as goal

abbrev pub invariant-loop-i : goal.invariant-loop-i
invariant-loop-i g l = Filled (dots_of l.at l.x g.row.N) l.out g.row.N l.i
