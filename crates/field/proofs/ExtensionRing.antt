-- The extension words are a commutative ring. Each law holds of any coefficients, but where an extension word stands alone on one side. Assumes nothing.
use mathlib.Core.Path.{◌≡◌, refl, sym, ap, ◌∙◌}
use Prim.Native.Nat.{ℕ, ◌<◌}
use native.Mathlib.Nat.{mod-eq_of_lt, zero-mul, one-mul, mul-zero}
use lib.Dec.{lit<}
use Rattle.field.specs.declared.extension.XFieldElement.{XFieldElement}
use Rattle.field.specs.Base.{p, add_p, mul_p}
use Rattle.field.specs.Extension.{WordsX, lift_x, add_x, neg_x, sub_x, mul_x, scale_x}
use Rattle.field.proofs.Remainder.{same-mod}
use Rattle.field.proofs.Ring.{below, minus_one, sub-strip, neg_strip, add_p_comm, add_p_assoc, add_p_zero, add_p-neg_p, sub_p-neg_p}
use Rattle.field.proofs.CubicProduct.{xfe-path, times, plain, reduced, plus, times_comm, times_assoc, times-plus, times_lift}

-- ---- each result is an extension word

pub lift_x-words : (a : ℕ) → a < p → WordsX (lift_x a)
lift_x-words a h = record { low0 = h; low1 = lit< tt; low2 = lit< tt }

pub add_x-words : (x y : XFieldElement) → WordsX (add_x x y)
unfolding add_x
add_x-words x y = record { low0 = below _; low1 = below _; low2 = below _ }

pub neg_x-words : (x : XFieldElement) → WordsX (neg_x x)
unfolding neg_x
neg_x-words x = record { low0 = below _; low1 = below _; low2 = below _ }

pub sub_x-words : (x y : XFieldElement) → WordsX (sub_x x y)
unfolding sub_x
sub_x-words x y = record { low0 = below _; low1 = below _; low2 = below _ }

pub mul_x-words : (x y : XFieldElement) → WordsX (mul_x x y)
unfolding mul_x
mul_x-words x y = record { low0 = below _; low1 = below _; low2 = below _ }

pub scale_x-words : (b : ℕ) (x : XFieldElement) → WordsX (scale_x b x)
unfolding scale_x
scale_x-words b x = record { low0 = below _; low1 = below _; low2 = below _ }

-- ---- sums

pub add_x_comm : (x y : XFieldElement) → add_x x y ≡ add_x y x
unfolding add_x
add_x_comm x y = xfe-path (add_p_comm x.c0 y.c0) (add_p_comm x.c1 y.c1) (add_p_comm x.c2 y.c2)

pub add_x_assoc : (x y z : XFieldElement) → add_x (add_x x y) z ≡ add_x x (add_x y z)
unfolding add_x
add_x_assoc x y z = xfe-path (add_p_assoc x.c0 y.c0 z.c0) (add_p_assoc x.c1 y.c1 z.c1) (add_p_assoc x.c2 y.c2 z.c2)

pub add_x_zero : (x : XFieldElement) → WordsX x → add_x x (lift_x 0) ≡ x
unfolding add_x
add_x_zero x h = xfe-path (add_p_zero x.c0 h.low0) (add_p_zero x.c1 h.low1) (add_p_zero x.c2 h.low2)

pub add_x-neg_x : (x : XFieldElement) → add_x x (neg_x x) ≡ lift_x 0
unfolding add_x neg_x
add_x-neg_x x = xfe-path (add_p-neg_p x.c0) (add_p-neg_p x.c1) (add_p-neg_p x.c2)

pub sub_x-neg_x : (x y : XFieldElement) → sub_x x y ≡ add_x x (neg_x y)
unfolding sub_x add_x neg_x
sub_x-neg_x x y = xfe-path (sub_p-neg_p x.c0 y.c0) (sub_p-neg_p x.c1 y.c1) (sub_p-neg_p x.c2 y.c2)

-- ---- products, by the form in which p - 1 stands for -1

pub mul_x-times : (x y : XFieldElement) → mul_x x y ≡ times minus_one x y
unfolding mul_x times plain reduced
mul_x-times x y = xfe-path (sub-strip _ _) (sub-strip _ _) refl

pub add_x-plus : (x y : XFieldElement) → add_x x y ≡ plus minus_one x y
unfolding add_x plus
add_x-plus x y = refl

pub mul_x_comm : (x y : XFieldElement) → mul_x x y ≡ mul_x y x
mul_x_comm x y = mul_x-times x y ∙ times_comm minus_one x y ∙ sym (mul_x-times y x)

pub mul_x_assoc : (x y z : XFieldElement) → mul_x (mul_x x y) z ≡ mul_x x (mul_x y z)
mul_x_assoc x y z =
    mul_x-times (mul_x x y) z
    ∙ ap (λ (t : XFieldElement). times minus_one t z) (mul_x-times x y)
    ∙ times_assoc minus_one x y z
    ∙ ap (times minus_one x) (sym (mul_x-times y z))
    ∙ sym (mul_x-times x (mul_x y z))

pub mul_x-add_x : (x y z : XFieldElement) → mul_x x (add_x y z) ≡ add_x (mul_x x y) (mul_x x z)
mul_x-add_x x y z =
    mul_x-times x (add_x y z)
    ∙ ap (times minus_one x) (add_x-plus y z)
    ∙ times-plus minus_one x y z
    ∙ sym (λ i. plus minus_one (mul_x-times x y i) (mul_x-times x z i))
    ∙ sym (add_x-plus (mul_x x y) (mul_x x z))

-- ---- the product with a word

pub scale_x-mul_x : (b : ℕ) (x : XFieldElement) → scale_x b x ≡ mul_x (lift_x b) x
unfolding scale_x
scale_x-mul_x b x = sym (mul_x-times (lift_x b) x ∙ times_lift minus_one b x)

pub scale_x_one : (x : XFieldElement) → WordsX x → scale_x 1 x ≡ x
unfolding scale_x
scale_x_one x h = xfe-path (one_is x.c0 h.low0) (one_is x.c1 h.low1) (one_is x.c2 h.low2)
  where
    one_is : (a : ℕ) → a < p → mul_p 1 a ≡ a
    one_is a h = same-mod p _ _ (one-mul a) ∙ mod-eq_of_lt h

pub mul_x_one : (x : XFieldElement) → WordsX x → mul_x x (lift_x 1) ≡ x
mul_x_one x h = mul_x_comm x (lift_x 1) ∙ sym (scale_x-mul_x 1 x) ∙ scale_x_one x h

-- a word may be moved out of a product
pub mul_x-scale_x : (b : ℕ) (x y : XFieldElement) → mul_x x (scale_x b y) ≡ scale_x b (mul_x x y)
mul_x-scale_x b x y =
    ap (mul_x x) (scale_x-mul_x b y)
    ∙ sym (mul_x_assoc x (lift_x b) y)
    ∙ ap (λ (t : XFieldElement). mul_x t y) (mul_x_comm x (lift_x b))
    ∙ mul_x_assoc (lift_x b) x y
    ∙ sym (scale_x-mul_x b (mul_x x y))

neg_x-scale_x : (x : XFieldElement) → neg_x x ≡ scale_x minus_one x
unfolding neg_x scale_x
neg_x-scale_x x = xfe-path (neg_strip x.c0) (neg_strip x.c1) (neg_strip x.c2)

pub mul_x-neg_x : (x y : XFieldElement) → mul_x x (neg_x y) ≡ neg_x (mul_x x y)
mul_x-neg_x x y = ap (mul_x x) (neg_x-scale_x y) ∙ mul_x-scale_x minus_one x y ∙ sym (neg_x-scale_x (mul_x x y))

-- ---- words among the extension words

pub add_x-lift_x : (a b : ℕ) → add_x (lift_x a) (lift_x b) ≡ lift_x (add_p a b)
unfolding add_x
add_x-lift_x a b = refl

pub scale_x-lift_x : (a b : ℕ) → scale_x a (lift_x b) ≡ lift_x (mul_p a b)
unfolding scale_x
scale_x-lift_x a b = xfe-path refl (same-mod p _ _ (mul-zero a)) (same-mod p _ _ (mul-zero a))

pub mul_x_zero : (x : XFieldElement) → mul_x x (lift_x 0) ≡ lift_x 0
unfolding scale_x
mul_x_zero x =
    mul_x_comm x (lift_x 0)
    ∙ sym (scale_x-mul_x 0 x)
    ∙ xfe-path (same-mod p _ _ (zero-mul x.c0)) (same-mod p _ _ (zero-mul x.c1)) (same-mod p _ _ (zero-mul x.c2))

pub mul_x-lift_x : (a b : ℕ) → mul_x (lift_x a) (lift_x b) ≡ lift_x (mul_p a b)
mul_x-lift_x a b = sym (scale_x-mul_x a (lift_x b)) ∙ scale_x-lift_x a b
