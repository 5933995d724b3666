-- Powers: the exponents of products and squares, and powers by repeated squaring, which compute at numerals. Assumes nothing.
use mathlib.Core.Path.{◌≡◌, refl, sym, ap, ◌∙◌}
use Prim.Native.Nat.{ℕ, zero, suc, ◌+◌, ◌*◌, ◌/◌, ◌%◌, ◌^◌, ◌<◌}
use native.Mathlib.Nat.{pow-zero, pow-suc, one-mul, mul_comm, mul-zero}
use native.Mathlib.Omega.{arith}
use native.Mathlib.Numerals.{add-one}
use lib.Pow.{pow-add}
use Rattle.field.specs.Base.{p, mul_p, pow_p}
use Rattle.field.proofs.Remainder.{mul_cong, pow_cong, mul-mod-mod, even_pow, odd_pow, rem, pow-next}

-- ---- a product of powers, and a power of a power

pub joined : (x i j : ℕ) {a b r : ℕ} → a ≡ pow_p x i → b ≡ pow_p x j → r ≡ mul_p a b → r ≡ pow_p x (i + j)
joined x i j {a} {b} e f g = pow-next p x i j a b (rem p (x ^ i) e) (rem p (x ^ j) f) g

pow-mul : (x i j : ℕ) → x ^ (i * j) ≡ (x ^ i) ^ j
pow-mul x i zero = ap (λ (z : ℕ). x ^ z) (mul-zero i) ∙ pow-zero x ∙ sym (pow-zero (x ^ i))
pow-mul x i (suc j) = ap (λ (z : ℕ). x ^ z) (step i j) ∙ pow-add x (i * j) i ∙ ap (λ (z : ℕ). z * x ^ i) (pow-mul x i j) ∙ sym (pow-suc (x ^ i) j)
  where
    step : (i j : ℕ) → i * suc j ≡ i * j + i
    step i j = omega arith

pub raised : (x i j : ℕ) {a r : ℕ} → a ≡ pow_p x i → r ≡ pow_p a j → r ≡ pow_p x (i * j)
raised x i j {a} e g = g ∙ pow_cong p a (x ^ i) j (rem p (x ^ i) e) ∙ ap (λ (z : ℕ). z % p) (sym (pow-mul x i j))

twice : (i : ℕ) → 2 ^ i + 2 ^ i ≡ 2 ^ (i + 1)
twice i = rw (add-one, pow-suc 2 i) (omega arith)

pub doubled : (x i : ℕ) {a r : ℕ} → a ≡ pow_p x (2 ^ i) → r ≡ mul_p a a → r ≡ pow_p x (2 ^ (i + 1))
doubled x i e g = joined x (2 ^ i) (2 ^ i) e e g ∙ ap (λ (z : ℕ). pow_p x z) (twice i)

pub raised_all : (x i n : ℕ) {r : ℕ} → r ≡ pow_p x (2 ^ i) → i ≡ n → r ≡ pow_p x (2 ^ n)
raised_all x i n e h = e ∙ ap (λ (z : ℕ). pow_p x (2 ^ z)) h

-- ---- by repeated squaring

-- b ^ e modulo m for an e below 2 ^ n
unfoldable pub pow_m : ℕ → ℕ → ℕ → ℕ → ℕ
pow_m m zero b e = 1 % m
pow_m m (suc n) b e = (b ^ (e % 2) * pow_m m n (b * b % m) (e / 2)) % m

pow_m_zero : (m b e : ℕ) → pow_m m 0 b e ≡ 1 % m
unfolding pow_m
pow_m_zero m b e = refl

pow_m-suc : (m n b e : ℕ) → pow_m m (suc n) b e ≡ (b ^ (e % 2) * pow_m m n (b * b % m) (e / 2)) % m
unfolding pow_m
pow_m-suc m n b e = refl

bit : (b k h e : ℕ) → k < 2 → e ≡ k + (h + h) → b ^ k * (b * b) ^ h ≡ b ^ e
bit b zero h e l g = ap (λ (z : ℕ). z * (b * b) ^ h) (pow-zero b) ∙ one-mul _ ∙ sym (even_pow b h e (omega arith))
bit b (suc zero) h e l g =
    ap (λ (z : ℕ). z * (b * b) ^ h) (pow-suc b 0 ∙ ap (λ (z : ℕ). z * b) (pow-zero b) ∙ one-mul b) ∙ mul_comm b _ ∙ sym (odd_pow b h e (omega arith))
bit b (suc (suc k)) h e l g = absurd (omega arith)

none_is : (e : ℕ) → e < 2 ^ 0 → e ≡ 0
none_is e h = omega arith

pub pow_m-is : (m n b e : ℕ) → e < 2 ^ n → pow_m m n b e ≡ (b ^ e) % m
pow_m-is m zero b e h = pow_m_zero m b e ∙ ap (λ (z : ℕ). z % m) (sym (ap (λ (z : ℕ). b ^ z) (none_is e h) ∙ pow-zero b))
pow_m-is m (suc n) b e h =
    pow_m-suc m n b e
    ∙ ap (λ (z : ℕ). (b ^ (e % 2) * z) % m) (pow_m-is m n (b * b % m) (e / 2) (omega (arith, pow-suc 2 n)))
    ∙ mul-mod-mod (b ^ (e % 2)) ((b * b % m) ^ (e / 2)) m
    ∙ mul_cong m (b ^ (e % 2)) ((b * b % m) ^ (e / 2)) (b ^ (e % 2)) ((b * b) ^ (e / 2)) refl (pow_cong m (b * b % m) (b * b) (e / 2) (rem m (b * b) refl))
    ∙ ap (λ (z : ℕ). z % m) (bit b (e % 2) (e / 2) e (omega arith) (omega arith))
