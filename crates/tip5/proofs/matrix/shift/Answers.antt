use Rattle.std.proofs.Common.{arith, ◌+◌}
use Rattle.tip5.proofs.matrix.Laws.{coefficients-below}
use Rattle.tip5.proofs.matrix.shift.Goals as goal

pub overflow_mul-result : goal.overflow_mul-result
overflow_mul-result c = omega (arith, coefficients-below (c.args.at + c.args.i))

pub overflow_add-result : goal.overflow_add-result
overflow_add-result c = omega (arith, coefficients-below (c.args.at + c.args.i))
