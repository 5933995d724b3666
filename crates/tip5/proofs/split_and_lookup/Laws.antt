-- Split-and-lookup: the code's bytes and its product with the inverse of 2^64. Assumes nothing.
use mathlib.Core.List.{List, map, [], ◌∷◌}
use Rattle.std.specs.Int.{w64, to_le_bytes, from_le_bytes}
use Rattle.tip5.specs.Tab.{tab}
use mathlib.Core.Path.{◌≡◌, ap, ◌∙◌}
use Prim.Native.Nat.{ℕ, ◌+◌, ◌*◌, ◌-◌, ◌/◌, ◌%◌, ◌^◌, ◌<◌}
use native.Mathlib.Nat.{mod-mod, add-zero, div-div-eq-div-mul}
use native.Mathlib.Omega.{arith}
use lib.ListN.{get_or}
use Rattle.field.specs.Base.{p, neg_p, mul_p}
use Rattle.tip5.specs.SplitAndLookup.{lookup_of, lookups, bytes_of, number_of, looked_up, inverse64}
use Rattle.field.proofs.Remainder.{same_by}
use Rattle.field.proofs.Ring.{neg_strip, minus_one}
use Rattle.tip5.proofs.Tab.{tab-at}

-- the table's rule at each entry
pub lookups-at : (b : ℕ) → b < 2 ^ 8 → get_or lookups b 0 ≡ lookup_of b
unfolding lookups
lookups-at b h = tab-at lookup_of 256 b h

read : (b₀ b₁ b₂ b₃ b₄ b₅ b₆ b₇ : ℕ)
    → b₀ + b₁ * 256 + b₂ * 256 ^ 2 + b₃ * 256 ^ 3 + b₄ * 256 ^ 4 + b₅ * 256 ^ 5 + b₆ * 256 ^ 6 + b₇ * 256 ^ 7
    ≡ number_of (b₀ ∷ b₁ ∷ b₂ ∷ b₃ ∷ b₄ ∷ b₅ ∷ b₆ ∷ b₇ ∷ [])
unfolding number_of
read b₀ b₁ b₂ b₃ b₄ b₅ b₆ b₇ = omega arith

bytes-are : (y : ℕ) → to_le_bytes w64 y ≡ bytes_of 8 y
unfolding bytes_of
bytes-are y = simp div-div-eq-div-mul

-- eight bytes looked up one by one
pub looked-up-is : (y : ℕ) (l : List ℕ) → l ≡ tab (λ (i : ℕ). lookup_of (get_or (to_le_bytes w64 y) i 0)) 8 → from_le_bytes w64 l ≡ looked_up y
unfolding looked_up tab
looked-up-is y l e = ap (from_le_bytes w64) e ∙ read _ _ _ _ _ _ _ _ ∙ ap (λ (bs : List ℕ). number_of (map lookup_of bs)) (bytes-are y)

pub scaled-is : (x : ℕ) → (x * 2 ^ 64 + 0) % p ≡ mul_p x (2 ^ 64)
scaled-is x = ap (λ (y : ℕ). y % p) (add-zero (x * 2 ^ 64))

shifted : (z : ℕ) → z / 2 ^ 32 * 2 ^ 64 + z % 2 ^ 32 * 2 ^ 32 ≡ z * 2 ^ 32
shifted z = omega arith

-- the inverse of 2^64 is -2^32
minus : (z : ℕ) → minus_one * (z * 2 ^ 32) + z * p ≡ z * inverse64 + z * 2 ^ 32 * p
minus z = omega arith

pub unscaled : (z : ℕ) → neg_p ((z / 2 ^ 32 * 2 ^ 64 + z % 2 ^ 32 * 2 ^ 32) % p) ≡ mul_p z inverse64
unscaled z =
    ap (λ (x : ℕ). neg_p (x % p)) (shifted z)
    ∙ ap (λ (x : ℕ). (p - x) % p) (mod-mod (z * 2 ^ 32) p)
    ∙ neg_strip (z * 2 ^ 32)
    ∙ same_by p _ _ z (z * 2 ^ 32) (minus z)
