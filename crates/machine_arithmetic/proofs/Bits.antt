-- What the machine's &, ^, count_ones and leading_zeros give is what the definitions say of the digits. Assumes nothing.
use mathlib.Core.Path.{◌≡◌, refl, ap, ap₂, ◌∙◌}
use mathlib.Core.Bool.{Bool, true, false}
use Prim.Native.Nat.{ℕ, zero, suc, ◌+◌, ◌*◌, ◌/◌, ◌%◌, ◌^◌, ◌<◌, min}
use native.Mathlib.Nat.{pow-suc, zero-add}
use native.Mathlib.Omega.{arith}
use borrow.Author.Tests.{eqb-true, eqb-false}
use mir.Val.{bool_byte}
use lib.Bits.{bit_and, bit_xor, differ, and_step, xor_step}
use lib.Count.{ones, count_leading_zeros, ones_step}
use lib.Dec.{eqb}
use Rattle.choices.specs.Choice.{cond}
use Rattle.machine.specs.Bits.{ones_of, highest_of, both_of, either_of}

-- half of a number of n + 1 digits has n
half : (n a : ℕ) → a < 2 ^ suc n → a / 2 < 2 ^ n
half n a h = let k : a < 2 ^ n * 2 = rw pow-suc at h in omega arith

nil : (a : ℕ) → a < 2 ^ 0 → a ≡ 0
nil a h = omega arith

-- ---- counts

pub ones_digits : (n a : ℕ) → a < 2 ^ n → ones a ≡ ones_of n a
unfolding ones_of ones
ones_digits zero a h = ap ones (nil a h)
ones_digits (suc n) a h = ones_step a ∙ ap (λ (x : ℕ). a % 2 + x) (ones_digits n (a / 2) (half n a h))

-- the zeros above the highest digit that is 1 are those of the number's half
leading_half : (k a : ℕ) → 0 < a → count_leading_zeros (suc k) a ≡ count_leading_zeros k (a / 2)
unfolding count_leading_zeros
leading_half k zero p = absurd (omega arith)
leading_half k (suc a) p = refl

-- they make n with its place
pub highest_digits : (n a : ℕ) → 0 < a → a < 2 ^ suc n → highest_of n a + count_leading_zeros (suc n) a ≡ n
unfolding highest_of count_leading_zeros
highest_digits zero a p h = ap (λ (x : ℕ). 0 + x) (leading_half 0 a p)
highest_digits (suc n) a p h = rw (leading_half (suc n) a p) (go (eqb (a / 2) 0) refl (λ q. highest_digits n (a / 2) q (half (suc n) a h)))
  where
    go : (t : Bool) → eqb (a / 2) 0 ≡ t → (0 < a / 2 → highest_of n (a / 2) + count_leading_zeros (suc n) (a / 2) ≡ n) →
        cond t 0 (1 + highest_of n (a / 2)) + count_leading_zeros (suc n) (a / 2) ≡ suc n
    go true e ih = rw (eqb-true (a / 2) 0 e) (zero-add (suc n))
    go false e ih = let y : a / 2 ≡ 0 → ⊥ = eqb-false (a / 2) 0 e in omega (arith, ih (omega arith))

-- ---- digit by digit

digit_and : (x y : ℕ) → x < 2 → y < 2 → min x y ≡ x * y
digit_and zero zero h k = refl
digit_and zero (suc zero) h k = refl
digit_and (suc zero) zero h k = refl
digit_and (suc zero) (suc zero) h k = refl
digit_and (suc (suc x)) y h k = absurd (omega arith)
digit_and zero (suc (suc y)) h k = absurd (omega arith)
digit_and (suc zero) (suc (suc y)) h k = absurd (omega arith)

digit_xor : (x y : ℕ) → x < 2 → y < 2 → differ x y ≡ (x + y) % 2
digit_xor zero zero h k = refl
digit_xor zero (suc zero) h k = refl
digit_xor (suc zero) zero h k = refl
digit_xor (suc zero) (suc zero) h k = refl
digit_xor (suc (suc x)) y h k = absurd (omega arith)
digit_xor zero (suc (suc y)) h k = absurd (omega arith)
digit_xor (suc zero) (suc (suc y)) h k = absurd (omega arith)

-- digits are listed lowest first, or highest first
turn : (x y : ℕ) → x * 2 + y ≡ y + 2 * x
turn x y = omega arith

join : {r s c d : ℕ} → r ≡ s → c ≡ d → r * 2 + c ≡ d + 2 * s
join {s = s} {d = d} p q = ap₂ (λ (x y : ℕ). x * 2 + y) p q ∙ turn s d

pub both_digits : (n a b : ℕ) → a < 2 ^ n → bit_and a b ≡ both_of n a b
unfolding both_of
both_digits zero a b h = ap (λ (x : ℕ). bit_and x b) (nil a h)
both_digits (suc n) a b h =
    and_step a b ∙ join (both_digits n (a / 2) (b / 2) (half n a h)) (digit_and (a % 2) (b % 2) (omega arith) (omega arith))

pub either_digits : (n a b : ℕ) → a < 2 ^ n → b < 2 ^ n → bit_xor a b ≡ either_of n a b
unfolding either_of
either_digits zero a b h k = ap₂ bit_xor (nil a h) (nil b k)
either_digits (suc n) a b h k =
    xor_step a b
    ∙ join (either_digits n (a / 2) (b / 2) (half n a h) (half n b k)) (digit_xor (a % 2) (b % 2) (omega arith) (omega arith))

-- ---- a test as a number

pub bit-of : (b : Bool) → bool_byte b ≡ cond b 1 0
bit-of true = refl
bit-of false = refl
