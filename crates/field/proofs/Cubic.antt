-- X^3 - X + 1 has no root modulo p: a root would be one of X^p - X too, and that has an inverse modulo the cubic. Assumes nothing.
use mathlib.Core.Path.{◌≡◌, refl, sym, ap, ◌∙◌}
use mathlib.Core.Logic.{◌≢◌}
use Prim.Native.Nat.{ℕ, zero, suc, ◌+◌, ◌*◌, ◌/◌, ◌%◌, ◌^◌, ◌<◌}
use native.Mathlib.Nat.{mod-eq_of_lt, pow-zero, pow-suc, mul_comm, mul-zero, one-mul, div-add-mod', zero-mod}
use native.Mathlib.Omega.{arith}
use lib.Dec.{lit<}
use Rattle.field.specs.declared.extension.XFieldElement.{XFieldElement}
use Rattle.field.specs.Base.{p}
use Rattle.field.specs.Extension.{xfe, lift_x}
use Rattle.field.proofs.Remainder.{mul_cong, pow_cong, mul-mod-mod, even_pow, odd_pow, same-mod, same_by, apart}
use Rattle.field.proofs.Ring.{minus_one}
use Rattle.field.proofs.Modulus.{pow_p_fermat}
use Rattle.field.proofs.CubicProduct.{times, plain, reduced}

-- ---- the value of a polynomial at r; at a root, that of a product is the product of the values

unfoldable value : XFieldElement → ℕ → ℕ
value x r = x.c0 + x.c1 * r + x.c2 * (r * r)

-- a number's remainders may stand for the numbers
open_by : (m r s x xq xr y yq yr z zq zr : ℕ) → xq * m + xr ≡ x → yq * m + yr ≡ y → zq * m + zr ≡ z
    → xr + yr * r + zr * s + (xq + yq * r + zq * s) * m ≡ x + y * r + z * s + 0 * m
open_by m r s x xq xr y yq yr z zq zr e f g = omega (arith, ap (λ (u : ℕ). u * r) f, ap (λ (u : ℕ). u * s) g)

opened : (m r s x y z : ℕ) → (x % m + y % m * r + z % m * s) % m ≡ (x + y * r + z * s) % m
opened m r s x y z = same_by m _ _ _ _ (open_by m r s x (x / m) (x % m) y (y / m) (y % m) z (z / m) (z % m) (div-add-mod' x m) (div-add-mod' y m) (div-add-mod' z m))

folded : (w r c k l d₀ d₁ d₂ d₃ d₄ : ℕ) → c + 1 + l * suc w ≡ r + k * suc w
    → d₀ + w * d₃ + (d₁ + d₃ + w * d₄) * r + (d₂ + d₄) * (r * r) + (d₃ + d₄ * r) * k * suc w
    ≡ d₀ + d₁ * r + d₂ * (r * r) + d₃ * c + d₄ * (c * r) + (d₃ + d₄ * r) * suc l * suc w
folded w r c k l d₀ d₁ d₂ d₃ d₄ h = omega (arith, ap (λ (z : ℕ). (d₃ + d₄ * r) * z) h)

multiplied : (a₀ a₁ a₂ b₀ b₁ b₂ r : ℕ)
    → a₀ * b₀ + (a₀ * b₁ + a₁ * b₀) * r + (a₀ * b₂ + a₁ * b₁ + a₂ * b₀) * (r * r) + (a₁ * b₂ + a₂ * b₁) * (r * r * r) + a₂ * b₂ * (r * r * r * r)
    ≡ (a₀ + a₁ * r + a₂ * (r * r)) * (b₀ + b₁ * r + b₂ * (r * r))
multiplied a₀ a₁ a₂ b₀ b₁ b₂ r = omega arith

module _ (w r : ℕ) (root : (r * r * r + 1) % suc w ≡ r % suc w) where
  value_forms : (a₀ a₁ a₂ b₀ b₁ b₂ : ℕ) → value (times w (xfe a₀ a₁ a₂) (xfe b₀ b₁ b₂)) r % suc w ≡ (value (xfe a₀ a₁ a₂) r * value (xfe b₀ b₁ b₂) r) % suc w
  unfolding value times plain reduced
  value_forms a₀ a₁ a₂ b₀ b₁ b₂ =
      opened (suc w) r (r * r) (a₀ * b₀ + w * (a₁ * b₂ + a₂ * b₁)) (a₀ * b₁ + a₁ * b₀ + (a₁ * b₂ + a₂ * b₁) + w * (a₂ * b₂)) (a₀ * b₂ + a₁ * b₁ + a₂ * b₀ + a₂ * b₂)
      ∙ same_by (suc w) _ _ _ _
      (folded w r (r * r * r) ((r * r * r + 1) / suc w) (r / suc w) (a₀ * b₀) (a₀ * b₁ + a₁ * b₀) (a₀ * b₂ + a₁ * b₁ + a₂ * b₀) (a₁ * b₂ + a₂ * b₁) (a₂ * b₂)
      (apart (suc w) (r * r * r + 1) r root))
      ∙ same-mod (suc w) _ _ (multiplied a₀ a₁ a₂ b₀ b₁ b₂ r)

  value-times : (x y : XFieldElement) → value (times w x y) r % suc w ≡ (value x r * value y r) % suc w
  value-times x y = value_forms x.c0 x.c1 x.c2 y.c0 y.c1 y.c2

-- ---- powers, by squares

select : ℕ → XFieldElement → XFieldElement
select zero x = lift_x 1
select (suc k) x = x

-- x to the e, for an e below 2 ^ n
unfoldable power : ℕ → ℕ → XFieldElement → ℕ → XFieldElement
unfolding select
power w zero x e = lift_x 1
power w (suc n) x e = times w (select (e % 2) x) (power w n (times w x x) (e / 2))

power_zero : (w : ℕ) (x : XFieldElement) (e : ℕ) → power w 0 x e ≡ lift_x 1
unfolding power
power_zero w x e = refl

power-suc : (w n : ℕ) (x : XFieldElement) (e : ℕ) → power w (suc n) x e ≡ times w (select (e % 2) x) (power w n (times w x x) (e / 2))
unfolding power
power-suc w n x e = refl

value_one : (r : ℕ) → value (lift_x 1) r ≡ 1
unfolding value
value_one r = omega arith

-- the bit's factor and the square's power
selected : (x : XFieldElement) (r k h e : ℕ) → k < 2 → e ≡ k + (h + h) → value (select k x) r * (value x r * value x r) ^ h ≡ value x r ^ e
unfolding select
selected x r zero h e l g = ap (λ (z : ℕ). z * (value x r * value x r) ^ h) (value_one r) ∙ one-mul _ ∙ sym (even_pow (value x r) h e (omega arith))
selected x r (suc zero) h e l g = mul_comm (value x r) _ ∙ sym (odd_pow (value x r) h e (omega arith))
selected x r (suc (suc k)) h e l g = absurd (omega arith)

module _ (w r : ℕ) (root : (r * r * r + 1) % suc w ≡ r % suc w) where
  value-power : (n : ℕ) (x : XFieldElement) (e : ℕ) → e < 2 ^ n → value (power w n x e) r % suc w ≡ (value x r ^ e) % suc w
  value-power zero x e h =
      ap (λ (y : XFieldElement). value y r % suc w) (power_zero w x e)
      ∙ same-mod (suc w) _ _ (value_one r ∙ sym (ap (λ (z : ℕ). value x r ^ z) (zero_is e h) ∙ pow-zero (value x r)))
    where
      zero_is : (e : ℕ) → e < 2 ^ 0 → e ≡ 0
      zero_is e h = omega arith
  value-power (suc n) x e h =
      ap (λ (y : XFieldElement). value y r % suc w) (power-suc w n x e)
      ∙ value-times w r root (select (e % 2) x) (power w n (times w x x) (e / 2))
      ∙ mul_cong (suc w) (value (select (e % 2) x) r) (value (power w n (times w x x) (e / 2)) r) (value (select (e % 2) x) r) ((value x r * value x r) ^ (e / 2)) refl
      (value-power n (times w x x) (e / 2) (omega (arith, pow-suc 2 n)) ∙ pow_cong (suc w) (value (times w x x) r) (value x r * value x r) (e / 2) (value-times w r root x x))
      ∙ same-mod (suc w) _ _ (selected x r (e % 2) (e / 2) e (omega arith) (omega arith))

-- ---- X^p, and the inverse of X^p - X

x_to-p : power minus_one 64 (xfe 0 1 0) p ≡ xfe 7831040667286096068 10050274602728160328 6700183068485440219
unfolding power times plain reduced select
x_to-p = refl

inverse_of : times minus_one (xfe 17455428877415444409 15238614666038134874 7360253288463281919) (xfe 7831040667286096068 10050274602728160327 6700183068485440219) ≡ lift_x 1
unfolding times plain reduced
inverse_of = refl

value_x : (r : ℕ) → value (xfe 0 1 0) r ≡ r
unfolding value
value_x r = omega arith

value-split : (a b c r : ℕ) → value (xfe a (suc b) c) r ≡ value (xfe a b c) r + r
unfolding value
value-split a b c r = omega arith

zero_by : (m x y : ℕ) → (x + y) % m ≡ y % m → x % m ≡ 0
zero_by m x y e = same_by m x 0 (y / m) ((x + y) / m) (go (y / m * m) ((x + y) / m * m) (apart m (x + y) y e)) ∙ zero-mod m
  where
    go : (i j : ℕ) → x + y + i ≡ y + j → x + i ≡ 0 + j
    go i j e = omega arith

-- a root of the cubic is no root of X^p - X
module _ (w r : ℕ) (root : (r * r * r + 1) % suc w ≡ r % suc w) (a b c : ℕ) (v : XFieldElement) where
  not-both : 1 < suc w → value (xfe a (suc b) c) r % suc w ≡ r % suc w → times w v (xfe a b c) ≡ lift_x 1 → ⊥
  not-both h e f = zero_one (sym (mod-eq_of_lt h) ∙ same-mod (suc w) _ _ (sym (value_one r)) ∙ ap (λ (x : XFieldElement). value x r % suc w) (sym f)
      ∙ value-times w r root v (xfe a b c)
      ∙ sym (mul-mod-mod (value v r) (value (xfe a b c) r) (suc w))
      ∙ ap (λ (z : ℕ). (value v r * z) % suc w) (zero_by (suc w) (value (xfe a b c) r) r (same-mod (suc w) _ _ (sym (value-split a b c r)) ∙ e))
      ∙ same-mod (suc w) _ _ (mul-zero (value v r))
      ∙ zero-mod (suc w))
    where
      zero_one : ◌≡◌ {A = ℕ} 1 0 → ⊥
      zero_one e = omega arith

pub no_root : (r : ℕ) → (r * r * r + 1) % p ≢ r % p
no_root r root =
    not-both minus_one r root 7831040667286096068 10050274602728160327 6700183068485440219
    (xfe 17455428877415444409 15238614666038134874 7360253288463281919)
    (lit< tt)
    (ap (λ (x : XFieldElement). value x r % p) (sym x_to-p)
    ∙ value-power minus_one r root 64 (xfe 0 1 0) p (lit< tt)
    ∙ ap (λ (z : ℕ). (z ^ p) % p) (value_x r)
    ∙ pow_p_fermat r)
    inverse_of
