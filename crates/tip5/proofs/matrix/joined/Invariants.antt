use Rattle.tip5.specs.Split.{joined_at}
use Rattle.tip5.proofs.Tab.{Filled}
use Rattle.tip5.proofs.matrix.joined.Given as goal

abbrev pub invariant-loop-i : goal.invariant-loop-i
invariant-loop-i g l = Filled (joined_at l.p l.q l.at l.s g.row.N) l.out g.row.M l.i
