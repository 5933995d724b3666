-- Lists of words, and place A's number 2 over them.
use Rattle.std.specs.Prelude.{ℕ, zero, suc, ◌+◌, ◌<◌, List, [], ◌∷◌, get_or, ltb}
pub use Rattle.field.specs.Base.{p}
use Rattle.choices.specs.Choice.{cond, first_of, above_of}

-- a list of words: each element is below p
pub data Words : List ℕ → Type 0 where
  none : Words []
  more : {x : ℕ} {s : List ℕ} → x < p → Words s → Words (x ∷ s)

-- 2 where x is at or above p
unfoldable pub word_of2 : ℕ → ℕ
word_of2 x = cond (ltb x p) 0 2

-- 2 where one of the first n elements is at or above p
unfoldable pub words_of : List ℕ → ℕ → ℕ
words_of s zero = 0
words_of s (suc n) = first_of (words_of s n) (word_of2 (get_or s n 0))

-- 5 where one of the n elements from i on is not 0
unfoldable pub zeros_from : List ℕ → ℕ → ℕ → ℕ
zeros_from s i zero = 0
zeros_from s i (suc n) = first_of (zeros_from s i n) (above_of (get_or s (i + n) 0) 0 5)
