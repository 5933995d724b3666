-- How the code multiplies with the matrix: by halves of the words, and by rows split in two. No part of Tip5.
use Rattle.std.specs.Prelude.{Bool, true, false, cond, List, ◌++◌, ℕ, ◌+◌, ◌*◌, ◌-◌, ◌/◌, ◌%◌, ◌<◌, ◌≤◌, ◌^◌, ltb, get_or}
use Rattle.tip5.specs.Matrix.{column, sum_to, row_sum}
use Rattle.tip5.specs.Tab.{tab}

-- each element is below b
abbrev pub Below : List ℕ → ℕ → Type 0
Below l b = (k : ℕ) → get_or l k 0 < b

-- ---- halves of words

abbrev pub half_of : Bool → ℕ → ℕ
half_of true x = x / 2 ^ 32
half_of false x = x % 2 ^ 32

abbrev pub half_at : Bool → List ℕ → ℕ → ℕ
half_at upper s i = half_of upper (get_or s i 0)

unfoldable pub halves_of : Bool → List ℕ → List ℕ
halves_of upper s = tab (half_at upper s) 16

-- ---- sums and differences; a difference of numbers stands above 2^33, one of coefficients above 2^17

abbrev pub pair_of : Bool → ℕ → ℕ → ℕ
pair_of true a b = a + 2 ^ 33 - b
pair_of false a b = a + b

abbrev pub pair_at : Bool → ℕ → List ℕ → ℕ → ℕ
pair_at minus n x j = pair_of minus (get_or x j 0) (get_or x ((j + n) % 16) 0)

unfoldable pub pairs_of : Bool → ℕ → List ℕ → List ℕ
pairs_of minus n x = tab (pair_at minus n x) 16

-- the matrix's first column downwards, from C[15] at 0 to C[0] at 15, and again: at 15 - i + j stands M[i][j]
abbrev pub entry_from : ℕ → ℕ
entry_from k = get_or column ((31 - k) % 16) 0

-- the coefficients of a circulant, downwards and twice, as sums and as differences of those n apart
abbrev pub sum_from : (ℕ → ℕ) → ℕ → ℕ → ℕ
sum_from f n k = f k + f (k + n)

abbrev pub apart_from : (ℕ → ℕ) → ℕ → ℕ → ℕ
apart_from f n k = f (k + n) + 2 ^ 17 - f k

abbrev pub apart_total : (ℕ → ℕ) → ℕ → ℕ → ℕ
apart_total f n i = sum_to (λ (j : ℕ). apart_from f n (n - 1 - i + j)) n

-- the circulant over the sums
abbrev pub wide_from : ℕ → ℕ
wide_from = sum_from entry_from 8

unfoldable pub coefficients : List ℕ
coefficients =
    tab (apart_from entry_from 8) 15 ++ tab (apart_from wide_from 4) 7 ++ tab (sum_from wide_from 4) 7 ++ tab (apart_total entry_from 8) 8 ++ tab (apart_total wide_from 4) 4

-- ---- rows

abbrev pub term_of : ℕ → List ℕ → ℕ → ℕ
term_of at x j = get_or coefficients (at + j) 0 * get_or x j 0

abbrev pub dot_of : ℕ → List ℕ → ℕ → ℕ
dot_of at x n = sum_to (term_of at x) n

abbrev pub dots_of : ℕ → List ℕ → ℕ → ℕ → ℕ
dots_of at x n i = dot_of (at + (n - 1 - i)) x n

abbrev pub total_of : List ℕ → ℕ → ℕ
total_of x n = sum_to (λ (j : ℕ). get_or x j 0) n

-- what the differences' standing above adds to row i
abbrev pub shift_of : ℕ → ℕ → ℕ → ℕ
shift_of at s i = get_or coefficients (at + i) 0 * 2 ^ 33 + s * 2 ^ 17

abbrev pub low_of : ℕ → ℕ → ℕ → ℕ → ℕ
low_of p q o n = (p + q + n * 2 ^ 50 - o) / 2

abbrev pub high_of : ℕ → ℕ → ℕ → ℕ → ℕ
high_of p q o n = (p + o - (q + n * 2 ^ 50)) / 2

abbrev pub joined_at : List ℕ → List ℕ → ℕ → ℕ → ℕ → ℕ → ℕ
joined_at p q at s n i =
    cond (ltb i n)
    (low_of (get_or p i 0) (get_or q i 0) (shift_of at s i) n)
    (high_of (get_or p (i - n) 0) (get_or q (i - n) 0) (shift_of at s (i - n)) n)

-- both rows of a pair are at least 0, and fit
pub record Ready (p q o n : ℕ) : Type 0 where
  pub sum : p + q + n * 2 ^ 50 < 2 ^ 64
  pub low : o ≤ p + q + n * 2 ^ 50
  pub high : q + n * 2 ^ 50 ≤ p + o
  pub fits : p + o < 2 ^ 64

pub record Joinable (p q : List ℕ) (at s n : ℕ) : Type 0 where
  pub size : n ≤ 8
  pub total : s < 2 ^ 38
  pub ready : (i : ℕ) → i < n → Ready (get_or p i 0) (get_or q i 0) (shift_of at s i) n

-- row i of the circulant over the sums
abbrev pub row8 : List ℕ → ℕ → ℕ
row8 x i = sum_to (λ (j : ℕ). wide_from (7 - i + j) * get_or x j 0) 8

unfoldable pub product_of : List ℕ → List ℕ
product_of x = tab (row_sum x) 16
