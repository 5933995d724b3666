-- What the code computes of words, coefficient by coefficient, is the product and the adjugate. Assumes nothing.
use mathlib.Core.Path.{◌≡◌}
use Prim.Native.Nat.{ℕ, ◌+◌, ◌*◌}
use native.Mathlib.Omega.{arith}
use Rattle.field.specs.declared.extension.XFieldElement.{XFieldElement}
use Rattle.field.specs.Base.{p, add_p, sub_p, neg_p, mul_p}
use Rattle.field.specs.Extension.{xfe, mul_x, adjugate_x}
use Rattle.field.proofs.Remainder.{strip, same-mod}
use Rattle.field.proofs.Ring.{sub-strip, neg_strip}
use Rattle.field.proofs.CubicProduct.{xfe-path}

-- ---- the product

mul0 : (a b c d e f : ℕ) → sub_p (mul_p a d) (add_p (b * f) (c * e)) ≡ sub_p (a * d) (b * f + c * e)
mul0 a b c d e f = simp (strip, sub-strip)

mul1 : (a b c d e f : ℕ) → sub_p (add_p (add_p (a * e) (b * d)) (add_p (b * f) (c * e))) (mul_p c f) ≡ sub_p (a * e + b * d + (b * f + c * e)) (c * f)
mul1 a b c d e f = simp (strip, sub-strip)

mul2 : (a b c d e f : ℕ) → add_p (add_p (add_p (a * f) (b * e)) (mul_p c d)) (mul_p c f) ≡ add_p (a * f + b * e + c * d) (c * f)
mul2 a b c d e f = simp strip

pub constant_is : (x y : XFieldElement) → sub_p (mul_p x.c0 y.c0) (add_p (x.c1 * y.c2) (x.c2 * y.c1)) ≡ (mul_x x y).c0
unfolding mul_x
constant_is x y = mul0 x.c0 x.c1 x.c2 y.c0 y.c1 y.c2

pub product_is : (x y : XFieldElement)
    → xfe
    (sub_p (mul_p x.c0 y.c0) (add_p (x.c1 * y.c2) (x.c2 * y.c1)))
    (sub_p (add_p (add_p (x.c0 * y.c1) (x.c1 * y.c0)) (add_p (x.c1 * y.c2) (x.c2 * y.c1))) (mul_p x.c2 y.c2))
    (add_p (add_p (add_p (x.c0 * y.c2) (x.c1 * y.c1)) (mul_p x.c2 y.c0)) (mul_p x.c2 y.c2))
    ≡ mul_x x y
unfolding mul_x
product_is x y =
    xfe-path
    (mul0 x.c0 x.c1 x.c2 y.c0 y.c1 y.c2)
    (mul1 x.c0 x.c1 x.c2 y.c0 y.c1 y.c2)
    (mul2 x.c0 x.c1 x.c2 y.c0 y.c1 y.c2)

-- ---- the adjugate

adjugate0 : (a b c : ℕ)
    → sub_p (add_p (add_p (add_p (a * a) (b * c)) (mul_p a c)) (add_p (mul_p a c) (mul_p c c))) (mul_p b b)
    ≡ sub_p (a * a + 2 * (a * c) + c * c + b * c) (b * b)
adjugate0 a b c = simp (strip, sub-strip) (same-mod p _ _ (omega arith))

adjugate1 : (a b c : ℕ) → neg_p (add_p (mul_p a b) (mul_p c c)) ≡ neg_p (a * b + c * c)
adjugate1 a b c = simp (strip, neg_strip)

adjugate2 : (a b c : ℕ) → sub_p (mul_p b b) (add_p (mul_p a c) (mul_p c c)) ≡ sub_p (b * b) (a * c + c * c)
adjugate2 a b c = simp (strip, sub-strip)

pub adjugate_is : (x : XFieldElement)
    → xfe
    (sub_p (add_p (add_p (add_p (x.c0 * x.c0) (x.c1 * x.c2)) (mul_p x.c0 x.c2)) (add_p (mul_p x.c0 x.c2) (mul_p x.c2 x.c2))) (mul_p x.c1 x.c1))
    (neg_p (add_p (mul_p x.c0 x.c1) (mul_p x.c2 x.c2)))
    (sub_p (mul_p x.c1 x.c1) (add_p (mul_p x.c0 x.c2) (mul_p x.c2 x.c2)))
    ≡ adjugate_x x
unfolding adjugate_x
adjugate_is x = xfe-path (adjugate0 x.c0 x.c1 x.c2) (adjugate1 x.c0 x.c1 x.c2) (adjugate2 x.c0 x.c1 x.c2)
