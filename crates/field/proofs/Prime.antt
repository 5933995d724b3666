-- Prime numbers: inverses, and products that a prime divides. Assumes nothing.
use mathlib.Core.Path.{◌≡◌, refl, sym, ap, ◌∙◌}
use mathlib.Core.Logic.{◌≢◌}
use Prim.Native.Nat.{ℕ, zero, suc, ◌+◌, ◌*◌, ◌/◌, ◌%◌, ◌<◌, ◌≤◌}
use native.Mathlib.Nat.{div-add-mod', mod-lt, mod-eq_of_lt, zero-mod, pos_of_ne-zero, mul-one, mul-zero}
use native.Mathlib.Decide.{ℕ_discrete}
use native.Mathlib.Omega.{arith}
use Rattle.field.proofs.Remainder.{mul_cong, mod-mul-mod, mul-mod-mod, same_by}

pub record Prime (q : ℕ) : Type 0 where
  pub big : 1 < q
  pub none : (d : ℕ) → 1 < d → d < q → q % d ≢ 0

-- k * a + r is q, so a * (-k) is r: an inverse of r gives one of a
step : (a k r w b : ℕ) → k * a + r ≡ suc w → a * (w * k * b) + b * r * suc w ≡ r * b + w * b * suc w
step a k r w b h = omega (arith, ap (λ (z : ℕ). w * b * z) h)

pub record Inverse (q a : ℕ) : Type 0 where
  pub of : ℕ
  pub is : (a * of) % q ≡ 1

inv_one : (q a : ℕ) → 1 < q → a ≡ 1 → Inverse q a
inv_one q a h e = record { of = 1; is = ap (λ (z : ℕ). (z * 1) % q) e ∙ mod-eq_of_lt h }

inv_next : (w a : ℕ) → Inverse (suc w) (suc w % a) → Inverse (suc w) a
inv_next w a v =
    record {
      of = w * (suc w / a) * v.of;
      is =
          same_by (suc w) (a * (w * (suc w / a) * v.of)) (suc w % a * v.of) (v.of * (suc w % a)) (w * v.of)
          (step a (suc w / a) (suc w % a) w v.of (div-add-mod' (suc w) a))
          ∙ v.is;
    }

inv_pick : (w a : ℕ) → Prime (suc w) → 0 < a → a < suc w → (1 < a → Inverse (suc w) (suc w % a)) → Dec (a ≡ 1) → Inverse (suc w) a
inv_pick w a P g l k (yes e) = inv_one (suc w) a P.big e
inv_pick w a P g l k (no e) = inv_next w a (k (omega arith))

inv_go : (w : ℕ) → Prime (suc w) → (n a : ℕ) → a ≤ n → 0 < a → a < suc w → Inverse (suc w) a
inv_go w P zero a h g l = absurd (omega arith)
inv_go w P (suc n) a h g l =
    let s : suc w % a < a = mod-lt (suc w) g in
    inv_pick w a P g l (λ (j : 1 < a). inv_go w P n (suc w % a) (omega arith) (pos_of_ne-zero (P.none a j l)) (omega arith)) (ℕ_discrete a 1)

-- every number that q does not divide has an inverse
pub inverse : (w : ℕ) → Prime (suc w) → (a : ℕ) → a % suc w ≢ 0 → Inverse (suc w) a
inverse w P a h =
    let v = inv_go w P (a % suc w) (a % suc w) (omega arith) (pos_of_ne-zero h) (mod-lt a (omega arith)) in
    record { of = v.of; is = sym (mod-mul-mod a v.of (suc w)) ∙ v.is }

swap₃ : (a b c : ℕ) → b * (a * c) ≡ c * (a * b)
swap₃ a b c = omega arith

-- what is left of b when a * c is 1
pub cancel : (q a b c : ℕ) → 1 < q → (a * c) % q ≡ 1 → (c * (a * b)) % q ≡ b % q
cancel q a b c h e =
    ap (λ (z : ℕ). z % q) (sym (swap₃ a b c))
    ∙ mul_cong q b (a * c) b 1 refl (e ∙ sym (mod-eq_of_lt h))
    ∙ ap (λ (z : ℕ). z % q) (mul-one b)

-- Euclid's lemma
pub euclid : (w a b : ℕ) → Prime (suc w) → (a * b) % suc w ≡ 0 → a % suc w ≢ 0 → b % suc w ≡ 0
euclid w a b P e h =
    let v = inverse w P a h in
    sym (cancel (suc w) a b v.of P.big v.is)
    ∙ sym (mul-mod-mod v.of (a * b) (suc w))
    ∙ ap (λ (z : ℕ). (v.of * z) % suc w) e
    ∙ ap (λ (z : ℕ). z % suc w) (mul-zero v.of)
    ∙ zero-mod (suc w)
