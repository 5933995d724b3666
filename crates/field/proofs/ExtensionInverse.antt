-- An extension word other than 0 times its inverse is 1, and no other extension word is its inverse. Assumes nothing.
use mathlib.Core.Path.{◌≡◌, refl, sym, ap, ◌∙◌}
use mathlib.Core.Logic.{◌≢◌}
use Prim.Native.Nat.{ℕ, suc, ◌+◌, ◌*◌, ◌%◌, ◌<◌}
use native.Mathlib.Nat.{add_assoc, mod-eq_of_lt, mod-mod, mul-mod_left}
use native.Mathlib.Omega.{arith}
use Rattle.field.specs.declared.extension.XFieldElement.{XFieldElement}
use Rattle.field.specs.Base.{p, inverse_p}
use Rattle.field.specs.Extension.{xfe, WordsX, lift_x, mul_x, scale_x, adjugate_x, norm_x, inverse_x}
use Rattle.field.proofs.Remainder.{add_cong, same-mod, same_by}
use Rattle.field.proofs.Ring.{minus_one, sub-strip, neg_strip, mul_p_comm}
use Rattle.field.proofs.Modulus.{p-prime}
use Rattle.field.proofs.Inverse.{inverse_p-is}
use Rattle.field.proofs.Cubic.{no_root}
use Rattle.field.proofs.Norm.{norm, rem₀, rem₁, cof, norm-row, second_row, third_row, AllZero, norm_zero}
use Rattle.field.proofs.CubicProduct.{xfe-path, reduced, times, times_forms, times-left, times-right}
use Rattle.field.proofs.ExtensionRing.{mul_x-words, scale_x-words, mul_x-times, mul_x_comm, mul_x_assoc, mul_x_one, mul_x_zero, mul_x-scale_x, scale_x-mul_x, scale_x-lift_x}

-- ---- modulo w + 1, with w for -1: the product with the adjugate is the norm

adjugate_w : ℕ → ℕ → ℕ → ℕ → XFieldElement
adjugate_w w a b c = xfe (cof w a b c) (w * rem₀ a b c) (rem₁ w a b c)

-- in the three rows x stands for rem₀, y for rem₁ and k for cof
row₀_by : (w a b c x y k : ℕ) → (a * k + w * c * (w * x) + w * b * y) % suc w ≡ (a * k + c * x + w * (b * y)) % suc w
row₀_by w a b c x y k = same_by (suc w) _ _ (c * x) (w * (c * x)) (omega arith)

row₁_by : (w a b c x y : ℕ) → (a + c) * x + c * y + w * (b * y) + ((a + c) * (w * x) + (b + w * c) * y) ≡ ((a + c) * x + c * y + b * y) * suc w
row₁_by w a b c x y = omega arith

row₂_by : (w a b c x y : ℕ) → b * x + w * ((a + c) * y) + (b * (w * x) + (a + c) * y) ≡ (b * x + (a + c) * y) * suc w
row₂_by w a b c x y = omega arith

row₀ : (w a b c : ℕ) → (a * cof w a b c + w * c * (w * rem₀ a b c) + w * b * rem₁ w a b c) % suc w ≡ norm w a b c % suc w
row₀ w a b c = row₀_by w a b c (rem₀ a b c) (rem₁ w a b c) (cof w a b c) ∙ sym (norm-row w a b c)

row₁ : (w a b c : ℕ) → (b * cof w a b c + (a + c) * (w * rem₀ a b c) + (b + w * c) * rem₁ w a b c) % suc w ≡ 0
row₁ w a b c = go (cof w a b c) (rem₀ a b c) (rem₁ w a b c) (second_row w a b c)
  where
    go : (k x y : ℕ) → (b * k) % suc w ≡ ((a + c) * x + c * y + w * (b * y)) % suc w → (b * k + (a + c) * (w * x) + (b + w * c) * y) % suc w ≡ 0
    go k x y e =
        same-mod (suc w) _ _ (add_assoc (b * k) ((a + c) * (w * x)) ((b + w * c) * y))
        ∙ add_cong (suc w) (b * k) ((a + c) * (w * x) + (b + w * c) * y) ((a + c) * x + c * y + w * (b * y)) ((a + c) * (w * x) + (b + w * c) * y) e refl
        ∙ same-mod (suc w) _ _ (row₁_by w a b c x y)
        ∙ mul-mod_left ((a + c) * x + c * y + b * y) (suc w)

row₂ : (w a b c : ℕ) → (c * cof w a b c + b * (w * rem₀ a b c) + (a + c) * rem₁ w a b c) % suc w ≡ 0
row₂ w a b c = go (cof w a b c) (rem₀ a b c) (rem₁ w a b c) (third_row w a b c)
  where
    go : (k x y : ℕ) → (c * k) % suc w ≡ (b * x + w * ((a + c) * y)) % suc w → (c * k + b * (w * x) + (a + c) * y) % suc w ≡ 0
    go k x y e =
        same-mod (suc w) _ _ (add_assoc (c * k) (b * (w * x)) ((a + c) * y))
        ∙ add_cong (suc w) (c * k) (b * (w * x) + (a + c) * y) (b * x + w * ((a + c) * y)) (b * (w * x) + (a + c) * y) e refl
        ∙ same-mod (suc w) _ _ (row₂_by w a b c x y)
        ∙ mul-mod_left (b * x + (a + c) * y) (suc w)

times_adjugate : (w a b c : ℕ) → times w (xfe a b c) (adjugate_w w a b c) ≡ lift_x (norm w a b c % suc w)
unfolding adjugate_w
times_adjugate w a b c = times_forms w a b c (cof w a b c) (w * rem₀ a b c) (rem₁ w a b c) ∙ xfe-path (row₀ w a b c) (row₁ w a b c) (row₂ w a b c)

-- ---- the adjugate and the norm modulo p

adjugate_x-reduced : (x : XFieldElement) → adjugate_x x ≡ reduced minus_one (adjugate_w minus_one x.c0 x.c1 x.c2)
unfolding adjugate_x reduced adjugate_w
adjugate_x-reduced x = xfe-path (sub-strip _ _) (neg_strip _) (sub-strip _ _)

adjugate_x-is : (x : XFieldElement) → mul_x x (adjugate_x x) ≡ lift_x (norm minus_one x.c0 x.c1 x.c2 % p)
adjugate_x-is x =
    mul_x-times x (adjugate_x x)
    ∙ ap (times minus_one x) (adjugate_x-reduced x)
    ∙ times-right minus_one x (adjugate_w minus_one x.c0 x.c1 x.c2)
    ∙ times_adjugate minus_one x.c0 x.c1 x.c2

norm_x-is : (x : XFieldElement) → norm_x x ≡ norm minus_one x.c0 x.c1 x.c2 % p
unfolding norm_x
norm_x-is x = ap (λ (y : XFieldElement). y.c0) (adjugate_x-is x)

-- the product with the adjugate is a word, the norm
pub mul_x-adjugate_x : (x : XFieldElement) → mul_x x (adjugate_x x) ≡ lift_x (norm_x x)
mul_x-adjugate_x x = adjugate_x-is x ∙ ap lift_x (sym (norm_x-is x))

pub norm_x_word : (x : XFieldElement) → norm_x x < p
unfolding norm_x
norm_x_word x = (mul_x-words x (adjugate_x x)).low0

norm_some : (x : XFieldElement) → ¬ (AllZero p x.c0 x.c1 x.c2) → norm_x x % p ≢ 0
norm_some x h e =
    h
    (norm_zero minus_one x.c0 x.c1 x.c2 p-prime no_root
    (sym (mod-mod (norm minus_one x.c0 x.c1 x.c2) p) ∙ same-mod p _ _ (sym (norm_x-is x)) ∙ e))

-- ---- words that are 0 modulo p

all_zero : (x : XFieldElement) → WordsX x → AllZero p x.c0 x.c1 x.c2 → x ≡ lift_x 0
all_zero x h z = xfe-path (sym (mod-eq_of_lt h.low0) ∙ z.at₀) (sym (mod-eq_of_lt h.low1) ∙ z.at₁) (sym (mod-eq_of_lt h.low2) ∙ z.at₂)

-- a norm of 0 only for 0
pub norm_x_zero : (x : XFieldElement) → WordsX x → norm_x x ≡ 0 → x ≡ lift_x 0
norm_x_zero x h e = all_zero x h (norm_zero minus_one x.c0 x.c1 x.c2 p-prime no_root (sym (norm_x-is x) ∙ e))

reduced_zero : (x : XFieldElement) → AllZero p x.c0 x.c1 x.c2 → reduced minus_one x ≡ lift_x 0
unfolding reduced
reduced_zero x z = xfe-path z.at₀ z.at₁ z.at₂

zero_mul_x : (x y : XFieldElement) → AllZero p x.c0 x.c1 x.c2 → mul_x x y ≡ lift_x 0
zero_mul_x x y z =
    mul_x-times x y
    ∙ sym (times-left minus_one x y)
    ∙ ap (λ (t : XFieldElement). times minus_one t y) (reduced_zero x z)
    ∙ sym (mul_x-times (lift_x 0) y)
    ∙ mul_x_comm (lift_x 0) y
    ∙ mul_x_zero y

one_some : (x y : XFieldElement) → mul_x x y ≡ lift_x 1 → ¬ (AllZero p x.c0 x.c1 x.c2)
one_some x y e z = apart (ap (λ (t : XFieldElement). t.c0) (sym (zero_mul_x x y z) ∙ e))
  where
    apart : ◌≡◌ {A = ℕ} 0 1 → ⊥
    apart e = omega arith

-- ---- the inverse

pub inverse_x-words : (x : XFieldElement) → WordsX (inverse_x x)
unfolding inverse_x
inverse_x-words x = scale_x-words (inverse_p (norm_x x)) (adjugate_x x)

inverse_by : (x : XFieldElement) → ¬ (AllZero p x.c0 x.c1 x.c2) → mul_x x (inverse_x x) ≡ lift_x 1
unfolding inverse_x
inverse_by x h =
    mul_x-scale_x (inverse_p (norm_x x)) x (adjugate_x x)
    ∙ ap (scale_x (inverse_p (norm_x x))) (mul_x-adjugate_x x)
    ∙ scale_x-lift_x (inverse_p (norm_x x)) (norm_x x)
    ∙ ap lift_x (mul_p_comm (inverse_p (norm_x x)) (norm_x x) ∙ inverse_p-is (norm_x x) (norm_some x h))

pub inverse_x-is : (x : XFieldElement) → WordsX x → x ≢ lift_x 0 → mul_x x (inverse_x x) ≡ lift_x 1
inverse_x-is x h n = inverse_by x (λ z. n (all_zero x h z))

-- what a test of the three coefficients gives
pub inverse_x_some : (x : XFieldElement) → WordsX x → 0 < x.c0 + x.c1 + x.c2 → mul_x x (inverse_x x) ≡ lift_x 1
inverse_x_some x h g = inverse_x-is x h (λ e. none x.c0 x.c1 x.c2 g (ap (λ (t : XFieldElement). t.c0) e) (ap (λ (t : XFieldElement). t.c1) e) (ap (λ (t : XFieldElement). t.c2) e))
  where
    none : (a b c : ℕ) → 0 < a + b + c → a ≡ 0 → b ≡ 0 → c ≡ 0 → ⊥
    none a b c g e f k = omega arith

pub inverse_x_only : (x y : XFieldElement) → WordsX y → mul_x x y ≡ lift_x 1 → y ≡ inverse_x x
inverse_x_only x y h e =
    sym (mul_x_one y h)
    ∙ ap (mul_x y) (sym (inverse_by x (one_some x y e)))
    ∙ sym (mul_x_assoc y x (inverse_x x))
    ∙ ap (λ (t : XFieldElement). mul_x t (inverse_x x)) (mul_x_comm y x ∙ e)
    ∙ mul_x_comm (lift_x 1) (inverse_x x)
    ∙ mul_x_one (inverse_x x) (inverse_x-words x)

adjugate_x_zero : adjugate_x (lift_x 0) ≡ lift_x 0
unfolding adjugate_x
adjugate_x_zero = refl

pub inverse_x_zero : inverse_x (lift_x 0) ≡ lift_x 0
unfolding inverse_x
inverse_x_zero =
    ap (scale_x (inverse_p (norm_x (lift_x 0)))) adjugate_x_zero
    ∙ scale_x-mul_x (inverse_p (norm_x (lift_x 0))) (lift_x 0)
    ∙ mul_x_zero (lift_x (inverse_p (norm_x (lift_x 0))))
