-- Proth's theorem: p is prime if a number squared n times is -1 modulo p, and p is below 4 ^ (n + 1). Assumes nothing.
use mathlib.Core.Path.{◌≡◌, refl, sym, ap, ◌∙◌}
use mathlib.Core.Logic.{◌≢◌}
use Prim.Native.Nat.{ℕ, zero, suc, ◌+◌, ◌*◌, ◌-◌, ◌/◌, ◌%◌, ◌^◌, ◌<◌, ◌≤◌}
use native.Mathlib.Nat.{pow-zero, pow-suc, mod-eq_of_lt, zero-mod, mod_self, add-mod-mod, zero-mul, add-zero, mul-one, one-mul, mul-mod_right, div-add-mod', mul-le-mul, mod-mod_of_dvd, dvd_of_mod-eq-zero, mod-eq-zero_of_dvd, dvd_trans}
use native.Mathlib.Decide.{ℕ_discrete, dec_lt}
use native.Mathlib.Omega.{arith}
use Rattle.field.proofs.Remainder.{mul_cong, pow_cong, mod-mul-mod, square_pow, even_pow, odd_pow, same_by}
use Rattle.field.proofs.Prime.{Prime}
use Rattle.field.proofs.Fermat.{fermat_unit}

-- ---- the least divisor

pub record Least (n q : ℕ) : Type 0 where
  pub big : 1 < q
  pub divides : n % q ≡ 0
  pub none : (d : ℕ) → 1 < d → d < q → n % d ≢ 0

divides_on : (n d e : ℕ) → n % d ≡ 0 → d % e ≡ 0 → n % e ≡ 0
divides_on n d e h g = mod-eq-zero_of_dvd e (dvd_trans e (dvd_of_mod-eq-zero e g) (dvd_of_mod-eq-zero d h))

pub least-prime : (n q : ℕ) → Least n q → Prime q
least-prime n q l = record { big = l.big; none = λ d h g e. l.none d h g (divides_on n q d l.divides e) }

one_more : (n d : ℕ) → ((e : ℕ) → 1 < e → e < d → n % e ≢ 0) → n % d ≢ 0 → (e : ℕ) → 1 < e → e < suc d → n % e ≢ 0
one_more n d f h e g l = pick (ℕ_discrete e d)
  where
    pick : Dec (e ≡ d) → n % e ≢ 0
    pick (yes k) = λ z. h (ap (λ (x : ℕ). n % x) (sym k) ∙ z)
    pick (no k) = f e g (omega arith)

least-pick : (n d : ℕ) → 1 < d → ((e : ℕ) → 1 < e → e < d → n % e ≢ 0) → (n % d ≢ 0 → (q : ℕ) × Least n q) → Dec (n % d ≡ 0) → (q : ℕ) × Least n q
least-pick n d h f k (yes e) = (d, record { big = h; divides = e; none = f })
least-pick n d h f k (no e) = k e

least_go : (n f d : ℕ) → d + f ≡ n → 1 < d → ((e : ℕ) → 1 < e → e < d → n % e ≢ 0) → (q : ℕ) × Least n q
least_go n zero d e h g = (d, record { big = h; divides = ap (λ (x : ℕ). n % x) (sym (add-zero d) ∙ e) ∙ mod_self n; none = g })
least_go n (suc f) d e h g = least-pick n d h g (λ (k : n % d ≢ 0). least_go n f (suc d) (omega arith) (omega arith) (one_more n d g k)) (ℕ_discrete (n % d) 0)

pub least : (n : ℕ) → 1 < n → (q : ℕ) × Least n q
least n h = least_go n (n - 2) 2 (omega arith) (omega arith) (λ e g l. absurd (omega arith))

above_one : (k q n : ℕ) → k * q ≡ n → q < n → 1 < k
above_one zero q n e h = absurd (omega arith)
above_one (suc zero) q n e h = absurd (omega arith)
above_one (suc (suc k)) q n e h = omega arith

-- the cofactor of the least divisor is not smaller, unless it is 1
cofactor : (n q k : ℕ) → Least n q → q < n → k * q ≡ n → Dec (k < q) → q ≤ k
cofactor n q k l h e (no g) = omega arith
cofactor n q k l h e (yes g) = absurd (l.none k (above_one k q n e h) g (ap (λ (x : ℕ). x % k) (sym e) ∙ mul-mod_right k q))

squared : (q k n b : ℕ) → q ≤ k → k * q ≡ n → n < b * b → q < b
squared q k n b h e l = pick (dec_lt q b)
  where
    pick : Dec (q < b) → q < b
    pick (yes g) = g
    pick (no g) = let s : b * b ≤ k * q = mul-le-mul {n₁ = b} {m₁ = b} {n₂ = k} {m₂ = q} (omega arith) (omega arith) in absurd (omega arith)

-- n is prime if its least divisor, being below the root, cannot be
pub prime_by : (n b : ℕ) → 1 < n → n < b * b → ((q : ℕ) → Prime q → n % q ≡ 0 → q < b → ⊥) → Prime n
prime_by n b h l f = record { big = h; none = λ d g j e. go d g j e (least n h) }
  where
    go : (d : ℕ) → 1 < d → d < n → n % d ≡ 0 → (q : ℕ) × Least n q → ⊥
    go d g j e (q, m) =
        let whole : n / q * q ≡ n = omega (arith, div-add-mod' n q, m.divides) in
        let low : Dec (d < q) → q < n = elim [ yes i ↦ absurd (m.none d g i e) | no i ↦ omega arith ] in
        f q (least-prime n q m) m.divides (squared q (n / q) n b (cofactor n q (n / q) m (low (dec_lt d q)) whole (dec_lt (n / q) q)) whole l)

-- ---- squared n times

unfoldable pub squares : ℕ → ℕ → ℕ → ℕ
squares m zero y = y
squares m (suc n) y = squares m n (y * y % m)

squares_zero : (m y : ℕ) → squares m 0 y ≡ y
unfolding squares
squares_zero m y = refl

squares-suc : (m n y : ℕ) → squares m (suc n) y ≡ squares m n (y * y % m)
unfolding squares
squares-suc m n y = refl

module _ (m q : ℕ) (d : m % q ≡ 0) where
  inner : (a : ℕ) → a % m % q ≡ a % q
  inner a = mod-mod_of_dvd q a (dvd_of_mod-eq-zero q d)

  -- a power that is 1 stays 1
  one_squared : (y k : ℕ) → (y ^ k) % q ≡ 1 % q → ((y * y % m) ^ k) % q ≡ 1 % q
  one_squared y k e =
      pow_cong q (y * y % m) (y * y) k (inner (y * y))
      ∙ ap (λ (z : ℕ). z % q) (square_pow y k)
      ∙ mul_cong q (y ^ k) (y ^ k) 1 1 e e

  squares_one : (n y k : ℕ) → (y ^ k) % q ≡ 1 % q → (squares m n y ^ k) % q ≡ 1 % q
  squares_one zero y k e = ap (λ (z : ℕ). (z ^ k) % q) (squares_zero m y) ∙ e
  squares_one (suc n) y k e = ap (λ (z : ℕ). (z ^ k) % q) (squares-suc m n y) ∙ squares_one n (y * y % m) k (one_squared y k e)

  squares-none : (n y : ℕ) → y % q ≡ 0 → squares m n y % q ≡ 0
  squares-none zero y e = ap (λ (z : ℕ). z % q) (squares_zero m y) ∙ e
  squares-none (suc n) y e =
      ap (λ (z : ℕ). z % q) (squares-suc m n y)
      ∙ squares-none n (y * y % m)
      (inner (y * y) ∙ sym (mod-mul-mod y y q) ∙ ap (λ (z : ℕ). (z * y) % q) e ∙ ap (λ (z : ℕ). z % q) (zero-mul y) ∙ zero-mod q)

-- -1 to an odd power is -1
minus_by : (q w t : ℕ) → t * q ≡ suc w → w * w + t * q ≡ 1 + w * t * q
minus_by q w t e = omega (arith, ap (λ (z : ℕ). w * z) e)

quotient : (q n : ℕ) → n % q ≡ 0 → n / q * q ≡ n
quotient q n d = omega (arith, div-add-mod' n q)

minus_square : (q w : ℕ) → suc w % q ≡ 0 → (w * w) % q ≡ 1 % q
minus_square q w d = same_by q (w * w) 1 (suc w / q) (w * (suc w / q)) (minus_by q w (suc w / q) (quotient q (suc w) d))

one_pow : (h : ℕ) → 1 ^ h ≡ 1
one_pow zero = pow-zero 1
one_pow (suc h) = pow-suc 1 h ∙ mul-one (1 ^ h) ∙ one_pow h

minus_odd : (q w k h : ℕ) → suc w % q ≡ 0 → k ≡ suc (h + h) → (w ^ k) % q ≡ w % q
minus_odd q w k h d e =
    ap (λ (z : ℕ). z % q) (odd_pow w h k e)
    ∙ mul_cong q ((w * w) ^ h) w 1 w (pow_cong q (w * w) 1 h (minus_square q w d) ∙ ap (λ (z : ℕ). z % q) (one_pow h)) refl
    ∙ ap (λ (z : ℕ). z % q) (one-mul w)

-- -1 is 1 only modulo 1 and 2
minus_one_lem : (q w : ℕ) → suc w % q ≡ 0 → w % q ≡ 1 % q → 2 % q ≡ 0
minus_one_lem q w d e = sym (add-mod-mod 1 1 q) ∙ ap (λ (z : ℕ). (1 + z) % q) (sym e) ∙ add-mod-mod 1 w q ∙ ap (λ (z : ℕ). z % q) (omega arith) ∙ d

-- y's power k is 1, and y squared n times is -1: then 2 ^ (n + 1) divides k, or q divides 2
module _ (w q : ℕ) (d : suc w % q ≡ 0) where
  odd_order : (n k y : ℕ) → k % 2 ≡ 1 → (y ^ k) % q ≡ 1 % q → squares (suc w) n y % q ≡ w % q → 2 % q ≡ 0
  odd_order n k y o e f =
      minus_one_lem q w d
      (sym (minus_odd q w k (k / 2) d (omega arith))
      ∙ sym (pow_cong q (squares (suc w) n y) w k f)
      ∙ squares_one (suc w) q d n y k e)

  order_pick : (n k y : ℕ) → (k % 2 ≢ 1 → 2 % q ≡ 0) → (y ^ k) % q ≡ 1 % q → squares (suc w) n y % q ≡ w % q → Dec (k % 2 ≡ 1) → 2 % q ≡ 0
  order_pick n k y g e f (yes o) = odd_order n k y o e f
  order_pick n k y g e f (no o) = g o

  half_order : (k y : ℕ) → k % 2 ≢ 1 → (y ^ k) % q ≡ 1 % q → ((y * y % suc w) ^ (k / 2)) % q ≡ 1 % q
  half_order k y o e =
      pow_cong q (y * y % suc w) (y * y) (k / 2) (inner (suc w) q d (y * y))
      ∙ ap (λ (z : ℕ). z % q) (sym (even_pow y (k / 2) k (omega arith)))
      ∙ e

  order : (n k y : ℕ) → 0 < k → k < 2 ^ suc n → (y ^ k) % q ≡ 1 % q → squares (suc w) n y % q ≡ w % q → 2 % q ≡ 0
  order zero k y h g e f = odd_order zero k y (omega arith) e f
  order (suc n) k y h g e f =
      order_pick (suc n) k y
      (λ (o : k % 2 ≢ 1).
      order n (k / 2) (y * y % suc w) (omega arith) (omega (arith, pow-suc 2 (suc n))) (half_order k y o e)
      (ap (λ (z : ℕ). z % q) (sym (squares-suc (suc w) n y)) ∙ f))
      e f (ℕ_discrete (k % 2) 1)

-- w is not 0 modulo a divisor of w + 1
minus_some : (w q : ℕ) → 1 < q → suc w % q ≡ 0 → w % q ≢ 0
minus_some w q h d e =
    let f : 1 % q ≡ 0 = ap (λ (z : ℕ). z % q) (sym (add-zero 1)) ∙ ap (λ (z : ℕ). (1 + z) % q) (sym e) ∙ add-mod-mod 1 w q ∙ ap (λ (z : ℕ). z % q) (omega arith) ∙ d in
    let g : 1 % q ≡ 1 = mod-eq_of_lt h in
    omega arith

module _ (w n x : ℕ) (s : squares (suc w) n x ≡ w) (two : w % 2 ≡ 0) where
  none-small : (q : ℕ) → Prime q → suc w % q ≡ 0 → q < 2 ^ suc n → ⊥
  none-small zero P d l = let b = P.big in omega arith
  none-small (suc v) P d l =
      let b = P.big in
      let f : squares (suc w) n x % suc v ≡ w % suc v = ap (λ (z : ℕ). z % suc v) s in
      let u : x % suc v ≢ 0 = λ e. minus_some w (suc v) b d (sym f ∙ squares-none (suc w) (suc v) d n x e) in
      let t : 2 % suc v ≡ 0 = order w (suc v) d n v x (omega arith) (omega arith) (fermat_unit v x P u ∙ sym (mod-eq_of_lt b)) f in
      odd v d t b (ℕ_discrete v 1)
    where
      odd : (v : ℕ) → suc w % suc v ≡ 0 → 2 % suc v ≡ 0 → 1 < suc v → Dec (v ≡ 1) → ⊥
      odd v d t b (yes e) = let g : suc w % 2 ≡ 0 = ap (λ (z : ℕ). suc w % suc z) (sym e) ∙ d in omega arith
      odd v d t b (no e) = let g : 2 % suc v ≡ 2 = mod-eq_of_lt (omega arith) in omega arith

  pub proth : 0 < w → suc w < 2 ^ suc n * 2 ^ suc n → Prime (suc w)
  proth h l = prime_by (suc w) (2 ^ suc n) (omega arith) l none-small
