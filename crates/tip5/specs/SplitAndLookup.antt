-- Tip5: split-and-lookup, the S-box of words 0 to 3.
use Rattle.std.specs.Prelude.{◌≡◌, refl, List, [], ◌∷◌, map, ℕ, zero, suc, ◌+◌, ◌*◌, ◌-◌, ◌/◌, ◌%◌, ◌^◌}
use Rattle.field.specs.Base.{mul_p}
use Rattle.tip5.specs.Tab.{tab}

-- Tip5: L[i] = ((i + 1)^3 - 1) mod 257
unfoldable pub lookup_of : ℕ → ℕ
lookup_of i = ((i + 1) ^ 3 - 1) % 257

-- Tip5: for i = 0 .. 255
unfoldable pub lookups : List ℕ
lookups = tab lookup_of 256

-- the lowest n bytes of a number, the lowest first
unfoldable pub bytes_of : ℕ → ℕ → List ℕ
bytes_of zero y = []
bytes_of (suc n) y = y % 2 ^ 8 ∷ bytes_of n (y / 2 ^ 8)

-- bytes read as a number, the lowest first
unfoldable pub number_of : List ℕ → ℕ
number_of [] = 0
number_of (b ∷ bs) = b + 2 ^ 8 * number_of bs

-- Tip5: replace each of y's eight bytes b by L[b]; read the eight bytes as a number
unfoldable pub looked_up : ℕ → ℕ
looked_up y = number_of (map lookup_of (bytes_of 8 y))

-- Tip5: (2^64)^-1 mod p
abbrev pub inverse64 : ℕ
inverse64 = 0xffff_fffe_0000_0001

pub inverse64_is : mul_p (2 ^ 64) inverse64 ≡ 1
inverse64_is = refl

-- Tip5: let y = x * 2^64 mod p; z is y looked up; the result is z * (2^64)^-1 mod p
unfoldable pub split_and_lookup : ℕ → ℕ
split_and_lookup x = mul_p (looked_up (mul_p x (2 ^ 64))) inverse64
