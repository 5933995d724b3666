use mathlib.Core.Logic.{⊎_elim}
use native.Mathlib.Nat.{one-mul}
use lib.Dec.{lit<}
use Rattle.field.proofs.Remainder.{odd_step, even_step, last_step}
use Rattle.field.specs.Base.{p}
use Prim.Native.Nat.{ℕ, ◌%◌, ◌^◌}
use native.Mathlib.Omega.{arith}
use mathlib.Core.Path.{ap, ◌∙◌}
use Rattle.field.proofs.base.mod_pow.Goals as goal

pub loop-k-init : goal.loop-k-init
loop-k-init c = (lit< tt, ap (λ (x : ℕ). x % p) (one-mul (c.args.base ^ c.args.exponent)))

pub loop-k-smaller : goal.loop-k-smaller
loop-k-smaller c = omega arith

pub loop-k-preserved : goal.loop-k-preserved
loop-k-preserved c =
    let l = c.loop-k in
    ⊎_elim
    (λ w. (omega (arith, w.mul-acc.ensures), odd_step p l.acc l.b l.k _ _ (w.acc-is ∙ w.mul-acc.ensures) c.mul-b.ensures (omega arith) ∙ l.invariant.1))
    (λ w. (omega arith, even_step p l.acc l.b l.k _ _ w.acc-is c.mul-b.ensures (omega arith) ∙ l.invariant.1))
    c.if-k-eq1.branch-raw

pub returns : goal.returns
returns c =
    let l = c.loop-k in
    last_step p l.acc l.b l.k l.invariant.0 (omega arith) ∙ l.invariant.1
