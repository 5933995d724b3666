-- Laws on plain numbers that the proofs cite. Assumes nothing.
use mathlib.Core.Path.{◌≡◌, sym, ◌∙◌}
use Prim.Native.Nat.{ℕ, ◌+◌, ◌*◌, ◌-◌, ◌/◌, ◌%◌, ◌^◌, ◌<◌, ◌≤◌}
use native.Mathlib.Nat.{div-add-mod', add-mul-mod_self_right}
use native.Mathlib.Omega.{arith}
use Rattle.field.specs.Base.{p}
use lib.Arith.{digits_mod}

-- the upper and the lower 64 bits of a product
abbrev pub upper : ℕ → ℕ → ℕ
upper a b = a * b / 2 ^ 64

abbrev pub lower : ℕ → ℕ → ℕ
lower a b = a * b % 2 ^ 64

pub whole : (a b : ℕ) → a * b ≡ upper a b * 2 ^ 64 + lower a b
whole a b = sym (div-add-mod' (a * b) (2 ^ 64))

-- r is x's remainder where the two differ by multiples of p
pub cong_mod : (x i j : ℕ) {r : ℕ} → x + j * p ≡ i * p + r → r < p → r ≡ x % p
cong_mod x i j e h = sym (digits_mod i h) ∙ sym (λ k. e k % p) ∙ add-mul-mod_self_right x j p

-- 2^96 is (2^32 + 1) * p - 1 and 2^64 is p + (2^32 - 1)
fold : (hi lo : ℕ) → hi * 2 ^ 64 + lo + hi / 2 ^ 32 ≡ (hi / 2 ^ 32 * 0x1_0000_0001 + hi % 2 ^ 32) * p + (lo + hi % 2 ^ 32 * 0xffff_ffff)
fold hi lo = omega arith

shift : (x h y K i j r : ℕ) → x + h ≡ K * p + y → r + h + i * p ≡ y + j * p → x + j * p ≡ (K + i) * p + r
shift x h y K i j r e f = omega arith

-- r is the remainder of hi * 2^64 + lo where it is lo + (hi's lower half) * (2^32 - 1) - (hi's upper half), but for multiples of p
reduced : (hi lo i j : ℕ) {r : ℕ} → r + hi / 2 ^ 32 + i * p ≡ lo + hi % 2 ^ 32 * 0xffff_ffff + j * p → r < p → r ≡ (hi * 2 ^ 64 + lo) % p
reduced hi lo i j e h = cong_mod (hi * 2 ^ 64 + lo) _ j (shift (hi * 2 ^ 64 + lo) _ _ _ i j _ (fold hi lo) e) h

sum-ends : (t h m lo b : ℕ) → t + h ≡ lo + b * p → t + m + h + 0 * p ≡ lo + m + b * p
sum-ends t h m lo b e = omega arith

difference_ends : (t h m lo b : ℕ) → t + h ≡ lo + b * p → m ≤ p → p ≤ t + m → t - (p - m) + h + 1 * p ≡ lo + m + b * p
difference_ends t h m lo b e f g = omega arith

difference_lt : (t m : ℕ) → t < 2 ^ 64 → m ≤ 0xffff_fffe_0000_0001 → t - (p - m) < p
difference_lt t m f g = omega arith

-- the ends of `reduce`, for a t that is lo - (hi's upper half), with a borrow (b is 1) or without (b is 0)
module _ (hi lo t b : ℕ) (e : t + hi / 2 ^ 32 ≡ lo + b * p) where
  pub sum_is : t + hi % 2 ^ 32 * 0xffff_ffff < p → t + hi % 2 ^ 32 * 0xffff_ffff ≡ (hi * 2 ^ 64 + lo) % p
  sum_is h = reduced hi lo 0 b (sum-ends t _ _ lo b e) h

  pub difference_is : t < 2 ^ 64 → p ≤ t + hi % 2 ^ 32 * 0xffff_ffff → t - (p - hi % 2 ^ 32 * 0xffff_ffff) ≡ (hi * 2 ^ 64 + lo) % p
  difference_is f g =
      reduced hi lo 1 b (difference_ends t _ (hi % 2 ^ 32 * 0xffff_ffff) lo b e (omega arith) g) (difference_lt t (hi % 2 ^ 32 * 0xffff_ffff) f (omega arith))

-- the two steps of `reduce` in sums, with any number for p
add_back : (q h lo t : ℕ) → h ≤ q → t ≡ lo + (q - h) → t + h ≡ lo + 1 * q
add_back q h lo t g e = omega arith

pub borrowed : (hi lo t : ℕ) → hi < 2 ^ 64 → t ≡ lo + (p - hi / 2 ^ 32) → t + hi / 2 ^ 32 ≡ lo + 1 * p
borrowed hi lo t h e = add_back p (hi / 2 ^ 32) lo t (omega arith) e

pub over : (q m t : ℕ) → q - m ≤ t → q ≤ t + m
over q m t g = omega arith

pub under : (q m t : ℕ) → t < q - m → t + m < q
under q m t g = omega arith
