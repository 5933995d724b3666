-- The words are a commutative ring. Each law holds of any numbers, but where a word stands alone on one side. Assumes nothing.
use mathlib.Core.Path.{◌≡◌, sym, ap, ◌∙◌}
use Prim.Native.Nat.{ℕ, ◌+◌, ◌*◌, ◌-◌, ◌%◌, ◌<◌, ◌≤◌}
use native.Mathlib.Nat.{mod-lt, zero-add, add_comm, mul_comm, add-mod-mod}
use native.Mathlib.Omega.{arith}
use lib.Dec.{lit<}
use Rattle.field.specs.Base.{p, add_p, sub_p, neg_p, mul_p}
use Rattle.field.proofs.Remainder.{strip, same-mod, same_by, mul-mod-mod}

-- a remainder is a word
pub below : (x : ℕ) → x % p < p
below x = mod-lt x (lit< tt)

pub add_p_comm : (a b : ℕ) → add_p a b ≡ add_p b a
add_p_comm a b = same-mod p _ _ (add_comm a b)

pub add_p_assoc : (a b c : ℕ) → add_p (add_p a b) c ≡ add_p a (add_p b c)
add_p_assoc a b c = simp strip (same-mod p _ _ (omega arith))

pub add_p_zero : (a : ℕ) → a < p → add_p a 0 ≡ a
add_p_zero a h = omega arith

pub mul_p_comm : (a b : ℕ) → mul_p a b ≡ mul_p b a
mul_p_comm a b = same-mod p _ _ (mul_comm a b)

pub mul_p_assoc : (a b c : ℕ) → mul_p (mul_p a b) c ≡ mul_p a (mul_p b c)
mul_p_assoc a b c = simp strip (same-mod p _ _ (omega arith))

pub mul_p_one : (a : ℕ) → a < p → mul_p a 1 ≡ a
mul_p_one a h = omega arith

pub mul_p-add_p : (a b c : ℕ) → mul_p a (add_p b c) ≡ add_p (mul_p a b) (mul_p a c)
mul_p-add_p a b c = simp strip (same-mod p _ _ (omega arith))

-- ---- differences: -1 is p - 1

abbrev pub minus_one : ℕ
minus_one = 0xffff_ffff_0000_0000

minus : (a b : ℕ) → b ≤ p → a + (p - b) + b * p ≡ a + minus_one * b + 1 * p
minus a b h = omega arith

-- what `simp` uses: to subtract is to add p - 1 times
pub sub-strip : (a b : ℕ) → (a + (p - b % p)) % p ≡ (a + minus_one * b) % p
sub-strip a b =
    same_by p (a + (p - b % p)) (a + minus_one * (b % p)) (b % p) 1 (minus a (b % p) (omega arith))
    ∙ sym (add-mod-mod a (minus_one * (b % p)) p)
    ∙ ap (λ (z : ℕ). (a + z) % p) (mul-mod-mod minus_one b p)
    ∙ add-mod-mod a (minus_one * b) p

pub neg_strip : (b : ℕ) → (p - b % p) % p ≡ (minus_one * b) % p
neg_strip b = simp zero-add at (sub-strip 0 b)

pub sub_p-neg_p : (a b : ℕ) → sub_p a b ≡ add_p a (neg_p b)
sub_p-neg_p a b = sym (add-mod-mod a (p - b % p) p)

pub add_p-neg_p : (a : ℕ) → add_p a (neg_p a) ≡ 0
add_p-neg_p a = omega arith

pub mul_p-neg_p : (a b : ℕ) → mul_p a (neg_p b) ≡ neg_p (mul_p a b)
mul_p-neg_p a b = simp (strip, neg_strip) (same-mod p _ _ (omega arith))
