use Rattle.std.proofs.Common.{arith}
use Rattle.tip5.proofs.Tab.{filled_none, filled_more, filled_all}
use Rattle.tip5.proofs.matrix.dots.Goals as goal

pub loop-i-init : goal.loop-i-init
loop-i-init g c = filled_none _ _

pub loop-i-preserved : goal.loop-i-preserved
loop-i-preserved g c = filled_more _ _ _ _ _ c.loop-i.invariant (omega arith) c.dot.ensures

pub returns : goal.returns
returns g c = filled_all _ _ _ _ c.loop-i.invariant (omega arith)
