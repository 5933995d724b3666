-- The norm of a + b X + c X^2 modulo X^3 - X + 1 and modulo a prime w + 1, with w for -1, is 0 only for 0, if the cubic has no root. Assumes nothing.
use mathlib.Core.Path.{◌≡◌, refl, sym, ap, ◌∙◌}
use mathlib.Core.Logic.{◌≢◌}
use Prim.Native.Nat.{ℕ, suc, ◌+◌, ◌*◌, ◌%◌, ◌<◌}
use native.Mathlib.Nat.{mod-eq_of_lt, mul_assoc, mul-one, zero-add, mod-add-mod, add-mul-mod_self_right}
use native.Mathlib.Decide.{ℕ_discrete}
use native.Mathlib.Omega.{arith}
use Rattle.field.proofs.Remainder.{mul_cong, add_cong, same_by, zero_times, zero_plus, zero_rest}
use Rattle.field.proofs.Prime.{Prime, inverse, euclid}

cube_zero : (w x : ℕ) → Prime (suc w) → (x * x * x) % suc w ≡ 0 → x % suc w ≡ 0
cube_zero w x P e = pick (ℕ_discrete (x % suc w) 0)
  where
    pick : Dec (x % suc w ≡ 0) → x % suc w ≡ 0
    pick (yes h) = h
    pick (no h) = euclid w x x P (euclid w x (x * x) P (ap (λ (z : ℕ). z % suc w) (sym (mul_assoc x x x)) ∙ e) h) h

-- ---- the cubic in x / y

abbrev pub form : ℕ → ℕ → ℕ → ℕ
form w x y = x * x * x + w * (x * y * y) + y * y * y

scaled : (w x y v : ℕ) → v * v * v * form w x y ≡ x * v * (x * v) * (x * v) + w * (x * v * (y * v * (y * v))) + y * v * (y * v) * (y * v)
scaled w x y v = omega arith

unit_out : (w r e : ℕ) → 1 < suc w → e % suc w ≡ 1 → (r * r * r + w * (r * (e * e)) + e * e * e) % suc w ≡ (r * r * r + w * r + 1) % suc w
unit_out w r e h f =
    let g : e % suc w ≡ 1 % suc w = f ∙ sym (mod-eq_of_lt h) in
    let g₂ : (e * e) % suc w ≡ 1 % suc w = mul_cong (suc w) e e 1 1 g g in
    let g₃ : (e * e * e) % suc w ≡ 1 % suc w = mul_cong (suc w) (e * e) e 1 1 g₂ g in
    add_cong (suc w) (r * r * r + w * (r * (e * e))) (e * e * e) (r * r * r + w * r) 1
    (add_cong (suc w) (r * r * r) (w * (r * (e * e))) (r * r * r) (w * r) refl
    (mul_cong (suc w) w (r * (e * e)) w r refl (mul_cong (suc w) r (e * e) r 1 refl g₂ ∙ ap (λ (z : ℕ). z % suc w) (mul-one r))))
    g₃

root_by : (w r : ℕ) → (r * r * r + w * r + 1) % suc w ≡ 0 → (r * r * r + 1) % suc w ≡ r % suc w
root_by w r e =
    sym (add-mul-mod_self_right (r * r * r + 1) r (suc w))
    ∙ ap (λ (z : ℕ). z % suc w) (go (r * r * r))
    ∙ sym (mod-add-mod (r * r * r + w * r + 1) (suc w) r)
    ∙ ap (λ (z : ℕ). (z + r) % suc w) e
    ∙ ap (λ (z : ℕ). z % suc w) (zero-add r)
  where
    go : (s : ℕ) → s + 1 + r * suc w ≡ s + w * r + 1 + r
    go s = omega arith

abbrev pub NoRoot : ℕ → Type 0
NoRoot q = (r : ℕ) → (r * r * r + 1) % q ≢ r % q

pub record BothZero (q x y : ℕ) : Type 0 where
  pub first : x % q ≡ 0
  pub second : y % q ≡ 0

form_second : (w x y : ℕ) → Prime (suc w) → NoRoot (suc w) → form w x y % suc w ≡ 0 → y % suc w ≡ 0
form_second w x y P R e = pick (ℕ_discrete (y % suc w) 0)
  where
    pick : Dec (y % suc w ≡ 0) → y % suc w ≡ 0
    pick (yes h) = h
    pick (no h) =
        let v = inverse w P y h in
        absurd
        (R (x * v.of)
        (root_by w (x * v.of)
        (sym (unit_out w (x * v.of) (y * v.of) P.big v.is)
        ∙ ap (λ (z : ℕ). z % suc w) (sym (scaled w x y v.of))
        ∙ zero_times (suc w) (v.of * v.of * v.of) (form w x y) e)))

form-split : (w x y : ℕ) → form w x y ≡ x * x * x + (w * (x * y) + y * y) * y
form-split w x y = omega arith

pub form_zero : (w x y : ℕ) → Prime (suc w) → NoRoot (suc w) → form w x y % suc w ≡ 0 → BothZero (suc w) x y
form_zero w x y P R e =
    let h = form_second w x y P R e in
    record {
      first = cube_zero w x P (zero_rest (suc w) (x * x * x) ((w * (x * y) + y * y) * y) (ap (λ (z : ℕ). z % suc w) (sym (form-split w x y)) ∙ e) (zero_times (suc w) (w * (x * y) + y * y) y h));
      second = h;
    }

-- ---- the norm, with its negative terms under w

abbrev pub norm_plus : ℕ → ℕ → ℕ → ℕ
norm_plus a b c = a * a * a + 2 * (a * a * c) + a * c * c + 3 * (a * b * c) + c * c * c + b * c * c

abbrev pub norm_minus : ℕ → ℕ → ℕ → ℕ
norm_minus a b c = a * b * b + b * b * b

abbrev pub norm : ℕ → ℕ → ℕ → ℕ → ℕ
norm w a b c = norm_plus a b c + w * norm_minus a b c

-- c^2 (X^3 - X + 1) is (c X - b) (c X^2 + b X + a) + rem₁ X + rem₀
abbrev pub rem₀ : ℕ → ℕ → ℕ → ℕ
rem₀ a b c = a * b + c * c

abbrev pub rem₁ : ℕ → ℕ → ℕ → ℕ → ℕ
rem₁ w a b c = b * b + w * (a * c + c * c)

-- the first of the adjugate's three; the others are w * rem₀ and rem₁
abbrev pub cof : ℕ → ℕ → ℕ → ℕ → ℕ
cof w a b c = a * a + 2 * (a * c) + c * c + b * c + w * (b * b)

pub norm-row : (w a b c : ℕ) → norm w a b c % suc w ≡ (a * cof w a b c + c * rem₀ a b c + w * (b * rem₁ w a b c)) % suc w
norm-row w a b c = same_by (suc w) _ _ (w * (a * b * c + b * c * c)) (a * b * c + b * c * c) (omega arith)

pub second_row : (w a b c : ℕ) → (b * cof w a b c) % suc w ≡ ((a + c) * rem₀ a b c + c * rem₁ w a b c + w * (b * rem₁ w a b c)) % suc w
second_row w a b c = same_by (suc w) _ _ (a * c * c + c * c * c + w * (a * b * c + b * c * c)) (a * b * c + b * c * c) (omega arith)

pub third_row : (w a b c : ℕ) → (c * cof w a b c) % suc w ≡ (b * rem₀ a b c + w * ((a + c) * rem₁ w a b c)) % suc w
third_row w a b c = same_by (suc w) _ _ (a * b * b + w * (a * a * c + 2 * (a * c * c) + c * c * c)) (a * a * c + 2 * (a * c * c) + c * c * c) (omega arith)

-- from here x stands for rem₀, y for rem₁ and k for cof
spread : (b c x y k : ℕ) → (c * x + b * y) * k ≡ x * (c * k) + y * (b * k)
spread b c x y k = omega arith

crossed : (w a b c x y : ℕ) → (x * (b * x + w * ((a + c) * y)) + y * ((a + c) * x + c * y + w * (b * y))) % suc w ≡ (b * (x * x) + c * (y * y) + w * (b * (y * y))) % suc w
crossed w a b c x y = same_by (suc w) _ _ 0 ((a + c) * (x * y)) (omega arith)

spread₂ : (w a b c x y k : ℕ) → (c * x + b * y) * (a * k + c * x + w * (b * y)) ≡ a * ((c * x + b * y) * k) + (c * x + b * y) * (c * x + w * (b * y))
spread₂ w a b c x y k = omega arith

crossed₂ : (w a b c x y : ℕ)
    → (a * (b * (x * x) + c * (y * y) + w * (b * (y * y))) + (c * x + b * y) * (c * x + w * (b * y))) % suc w
    ≡ ((a * b + c * c) * (x * x) + (a * c + w * (a * b + b * b)) * (y * y)) % suc w
crossed₂ w a b c x y = same_by (suc w) _ _ 0 (b * c * (x * y)) (omega arith)

row-sum : (w a b c : ℕ) → (a * c + w * (a * b + b * b)) % suc w ≡ (w * (rem₀ a b c + rem₁ w a b c)) % suc w
row-sum w a b c = same_by (suc w) _ _ (w * (c * c) + w * (a * c)) (a * c) (omega arith)

turned : (w x y : ℕ) → form w (w * x) y % suc w ≡ (w * (x * (x * x) + w * (x + y) * (y * y))) % suc w
turned w x y = same_by (suc w) _ _ (w * (x * x * x) + w * (y * y * y)) (w * w * (x * x * x) + y * y * y) (omega arith)

module _ (w a b c x y k n : ℕ)
    (row₀ : n % suc w ≡ (a * k + c * x + w * (b * y)) % suc w)
    (row₁ : (b * k) % suc w ≡ ((a + c) * x + c * y + w * (b * y)) % suc w)
    (row₂ : (c * k) % suc w ≡ (b * x + w * ((a + c) * y)) % suc w) where
  spread_is : ((c * x + b * y) * k) % suc w ≡ (b * (x * x) + c * (y * y) + w * (b * (y * y))) % suc w
  spread_is =
      ap (λ (z : ℕ). z % suc w) (spread b c x y k)
      ∙ add_cong (suc w) (x * (c * k)) (y * (b * k)) (x * (b * x + w * ((a + c) * y))) (y * ((a + c) * x + c * y + w * (b * y)))
      (mul_cong (suc w) x (c * k) x (b * x + w * ((a + c) * y)) refl row₂)
      (mul_cong (suc w) y (b * k) y ((a + c) * x + c * y + w * (b * y)) refl row₁)
      ∙ crossed w a b c x y

  spread_norm : ((c * x + b * y) * n) % suc w ≡ ((a * b + c * c) * (x * x) + (a * c + w * (a * b + b * b)) * (y * y)) % suc w
  spread_norm =
      mul_cong (suc w) (c * x + b * y) n (c * x + b * y) (a * k + c * x + w * (b * y)) refl row₀
      ∙ ap (λ (z : ℕ). z % suc w) (spread₂ w a b c x y k)
      ∙ add_cong (suc w) (a * ((c * x + b * y) * k)) ((c * x + b * y) * (c * x + w * (b * y))) (a * (b * (x * x) + c * (y * y) + w * (b * (y * y)))) ((c * x + b * y) * (c * x + w * (b * y)))
      (mul_cong (suc w) a ((c * x + b * y) * k) a (b * (x * x) + c * (y * y) + w * (b * (y * y))) refl spread_is)
      refl
      ∙ crossed₂ w a b c x y

-- the cubic at rem₀ / - rem₁ is a multiple of the norm
form-norm : (w a b c : ℕ) → form w (w * rem₀ a b c) (rem₁ w a b c) % suc w ≡ (w * ((c * rem₀ a b c + b * rem₁ w a b c) * norm w a b c)) % suc w
form-norm w a b c =
    turned w (rem₀ a b c) (rem₁ w a b c)
    ∙ mul_cong (suc w) w (rem₀ a b c * (rem₀ a b c * rem₀ a b c) + w * (rem₀ a b c + rem₁ w a b c) * (rem₁ w a b c * rem₁ w a b c)) w ((c * rem₀ a b c + b * rem₁ w a b c) * norm w a b c) refl
    (sym
    (spread_norm w a b c (rem₀ a b c) (rem₁ w a b c) (cof w a b c) (norm w a b c) (norm-row w a b c) (second_row w a b c) (third_row w a b c)
    ∙ add_cong (suc w) (rem₀ a b c * (rem₀ a b c * rem₀ a b c)) ((a * c + w * (a * b + b * b)) * (rem₁ w a b c * rem₁ w a b c)) (rem₀ a b c * (rem₀ a b c * rem₀ a b c)) (w * (rem₀ a b c + rem₁ w a b c) * (rem₁ w a b c * rem₁ w a b c)) refl
    (mul_cong (suc w) (a * c + w * (a * b + b * b)) (rem₁ w a b c * rem₁ w a b c) (w * (rem₀ a b c + rem₁ w a b c)) (rem₁ w a b c * rem₁ w a b c) (row-sum w a b c) refl)))

unsign : (w x : ℕ) → (w * x) % suc w ≡ 0 → x % suc w ≡ 0
unsign w x e = same_by (suc w) x (w * (w * x)) (w * x) x (omega arith) ∙ zero_times (suc w) w (w * x) e

form-rows : (w a b c : ℕ) → form w b c % suc w ≡ (b * rem₁ w a b c + c * rem₀ a b c) % suc w
form-rows w a b c = same_by (suc w) _ _ (a * b * c) 0 (omega arith)

norm-split : (w a b c : ℕ) → norm w a b c ≡ a * a * a + ((2 * (a * a) + a * c + 3 * (a * b) + c * c + b * c) * c + w * (a * b + b * b) * b)
norm-split w a b c = omega arith

pub record AllZero (q a b c : ℕ) : Type 0 where
  pub at₀ : a % q ≡ 0
  pub at₁ : b % q ≡ 0
  pub at₂ : c % q ≡ 0

pub norm_zero : (w a b c : ℕ) → Prime (suc w) → NoRoot (suc w) → norm w a b c % suc w ≡ 0 → AllZero (suc w) a b c
norm_zero w a b c P R e =
    let g = form_zero w (w * rem₀ a b c) (rem₁ w a b c) P R
    (form-norm w a b c ∙ zero_times (suc w) w ((c * rem₀ a b c + b * rem₁ w a b c) * norm w a b c) (zero_times (suc w) (c * rem₀ a b c + b * rem₁ w a b c) (norm w a b c) e)) in
    let h = form_zero w b c P R
    (form-rows w a b c ∙ zero_plus (suc w) (b * rem₁ w a b c) (c * rem₀ a b c) (zero_times (suc w) b (rem₁ w a b c) g.second) (zero_times (suc w) c (rem₀ a b c) (unsign w (rem₀ a b c) g.first))) in
    record {
      at₀ =
          cube_zero w a P
          (zero_rest (suc w) (a * a * a) ((2 * (a * a) + a * c + 3 * (a * b) + c * c + b * c) * c + w * (a * b + b * b) * b)
          (ap (λ (z : ℕ). z % suc w) (sym (norm-split w a b c)) ∙ e)
          (zero_plus (suc w) ((2 * (a * a) + a * c + 3 * (a * b) + c * c + b * c) * c) (w * (a * b + b * b) * b)
          (zero_times (suc w) (2 * (a * a) + a * c + 3 * (a * b) + c * c + b * c) c h.second)
          (zero_times (suc w) (w * (a * b + b * b)) b h.first)));
      at₁ = h.first;
      at₂ = h.second;
    }
