use Rattle.std.proofs.Common.{ap, ℕ, ◌%◌, get_or, arith}
use Rattle.field.specs.Base.{p}
use Rattle.tip5.proofs.matrix.Laws.{carried}
use Rattle.tip5.proofs.round.row.Goals as goal

pub overflow_add-l : goal.overflow_add-l
overflow_add-l c = omega (arith, c.requires.2 c.args.i)

pub returns : goal.returns
returns c =
    rw (c.reduce.ensures, c.high-3.ensures.0, c.low-2.ensures.0, c.low-3.ensures.0, c.high-2.ensures.0, c.high.ensures.0, c.low.ensures.0, c.constant_at-k.ensures)
    (ap (λ (x : ℕ). x % p) (carried (get_or c.args.hi.now c.args.i 0) (get_or c.args.lo.now c.args.i 0) _))
