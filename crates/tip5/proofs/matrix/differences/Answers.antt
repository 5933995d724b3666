use Rattle.std.proofs.Common.{true, ◌∙◌, refl, arith}
use Rattle.tip5.proofs.Tab.{filled_none, filled_more, filled_all}
use Rattle.tip5.proofs.matrix.Laws.{pairs_are}
use Rattle.tip5.proofs.matrix.differences.Goals as goal

pub loop-j-init : goal.loop-j-init
loop-j-init g c = filled_none _ _

pub loop-j-preserved : goal.loop-j-preserved
loop-j-preserved g c = filled_more _ _ _ _ _ c.loop-j.invariant (omega arith) refl

pub returns : goal.returns
returns g c = filled_all _ _ _ _ c.loop-j.invariant (omega arith) ∙ pairs_are true g.row.N c.args.x.now (omega arith)
