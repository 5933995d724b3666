use Rattle.std.proofs.Common.{drop, arith, length-drop}
use Rattle.std.proofs.Math.Seq.{take_all}
use Rattle.machine_decide.proofs.handed.left.Goals as goal

pub returns : goal.returns
returns c = take_all _ (drop c.args.taken c.args.input.now) (simp length-drop (omega arith))
