-- Tip5: the circulant matrix.
use Rattle.std.specs.Prelude.{◌≡◌, refl, List, [], ◌∷◌, ℕ, zero, suc, ◌+◌, ◌*◌, ◌-◌, ◌%◌, get_or}
use Rattle.field.specs.Base.{p}
use Rattle.tip5.specs.Tab.{tab}

-- Tip5: the first column of the matrix, C[0] to C[15]
unfoldable pub column : List ℕ
column = 61402 ∷ 1108 ∷ 28750 ∷ 33823 ∷ 7454 ∷ 43244 ∷ 53865 ∷ 12034 ∷ 56951 ∷ 27521 ∷ 41351 ∷ 40901 ∷ 12021 ∷ 59689 ∷ 26798 ∷ 17845 ∷ []

-- Tip5: M[i][j] = C[(i - j) mod 16]
abbrev pub entry : ℕ → ℕ → ℕ
entry i j = get_or column ((16 + i - j) % 16) 0

-- f 0 + f 1 + .. + f (n - 1)
unfoldable pub sum_to : (ℕ → ℕ) → ℕ → ℕ
sum_to f zero = 0
sum_to f (suc n) = sum_to f n + f n

pub sum_zero : (f : ℕ → ℕ) → sum_to f 0 ≡ 0
unfolding sum_to
sum_zero f = refl

pub sum_suc : (f : ℕ → ℕ) (n : ℕ) → sum_to f (suc n) ≡ sum_to f n + f n
unfolding sum_to
sum_suc f n = refl

abbrev pub product : List ℕ → ℕ → ℕ → ℕ
product s i j = entry i j * get_or s j 0

-- Tip5: new word i is the sum over j of M[i][j] * s[j] ..
abbrev pub row_sum : List ℕ → ℕ → ℕ
row_sum s i = sum_to (product s i) 16

-- Tip5: .. modulo p
abbrev pub row_of : List ℕ → ℕ → ℕ
row_of s i = row_sum s i % p

unfoldable pub mds_of : List ℕ → List ℕ
mds_of s = tab (row_of s) 16
