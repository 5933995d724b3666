use mathlib.Core.Logic.{⊎_elim}
use native.Mathlib.Omega.{arith}
use Rattle.field.specs.Base.{p}
use Rattle.field.proofs.Reduction.{sum_is, difference_is, borrowed, over, under}
use Rattle.field.proofs.base.reduce.Goals as goal

pub returns-then-t-c : goal.returns-then-t-c
returns-then-t-c c =
    let a = c.args in
    let g = rw c.low-m.ensures.0 at (under p _ _ c.if-t-c.true) in
    rw c.low-m.ensures.0
    (⊎_elim
    (λ w. sum_is a.hi a.lo _ 0 (omega arith) g)
    (λ w. sum_is a.hi a.lo _ 1 (borrowed _ _ _ c.ranges.hi.fits (rw c.high-h.ensures.0 at w.t-is)) g)
    c.if-h-lo.branch-raw)

pub returns-else-t-c : goal.returns-else-t-c
returns-else-t-c c =
    let a = c.args in
    let g = rw c.low-m.ensures.0 at (over p _ _ c.if-t-c.false) in
    rw c.low-m.ensures.0
    (⊎_elim
    (λ w. difference_is a.hi a.lo _ 0 (omega arith) (omega arith) g)
    (λ w. difference_is a.hi a.lo _ 1 (borrowed _ _ _ c.ranges.hi.fits (rw c.high-h.ensures.0 at w.t-is)) (omega arith) g)
    c.if-h-lo.branch-raw)
