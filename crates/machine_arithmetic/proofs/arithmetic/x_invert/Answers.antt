use Rattle.std.proofs.Common.{Bool, true, false, ◌&&◌, cond, eqb, ◌≡◌, refl, sym, ap, ◌∙◌}
use Rattle.field.specs.Extension.{lift_x}
use Rattle.field.specs.declared.extension.XFieldElement.{XFieldElement}
use Rattle.machine.specs.Arithmetic.{zero_x, xst, x_invert_of}
use Rattle.machine.specs.Refusal.{refusal_of}
use Rattle.machine_effects.proofs.Effects.{refuses-as}
use Rattle.machine_arithmetic.proofs.arithmetic.x_invert.Goals as goal

all : (a b c : Bool) → (a && (b && c)) ≡ cond a (cond b c false) false
all true true c = refl
all true false c = refl
all false b c = refl

-- a comparison with 0, coefficient by coefficient
zero : (x z : XFieldElement) (b : Bool) → z ≡ lift_x 0 → b ≡ (eqb x.c0 z.c0 && (eqb x.c1 z.c1 && eqb x.c2 z.c2)) → zero_x x ≡ b
unfolding zero_x
zero x z b e h = sym (rw e at h ∙ all (eqb x.c0 0) (eqb x.c1 0) (eqb x.c2 0))

pub returns-then-eq : goal.returns-then-eq
unfolding x_invert_of refusal_of
returns-then-eq c =
    let e : zero_x (xst c.args.w.now.words 0) ≡ true = ap zero_x (sym c.element-x.ensures.is) ∙ zero _ _ _ c.from.ensures c.eq.ensures ∙ c.if-eq.true in
    rw (c.into.ensures, refuses-as _, e)

pub returns : goal.returns
unfolding x_invert_of
returns c =
    let e : zero_x (xst c.args.w.now.words 0) ≡ false = ap zero_x (sym c.element-x.ensures.is) ∙ zero _ _ _ c.from.ensures c.eq.ensures ∙ c.if-eq.false in
    rw (c.put.ensures, c.inverse_or_zero.ensures, c.element-x.ensures.is, e)
