-- Numbers as little-endian bytes, and back.
use Rattle.std.specs.Prelude.{ℕ, zero, suc, ◌+◌, ◌*◌, ◌/◌, ◌%◌, ◌<◌, Bool, false, List, [], ◌∷◌, get_or, eqb, ltb}
use Rattle.choices.specs.Choice.{cond}

-- a list of bytes
pub data Bytes : List ℕ → Type 0 where
  none : Bytes []
  more : {x : ℕ} {s : List ℕ} → x < 256 → Bytes s → Bytes (x ∷ s)

-- n bytes of v
unfoldable pub bytes_of : ℕ → ℕ → List ℕ
bytes_of zero v = []
bytes_of (suc n) v = v % 256 ∷ bytes_of n (v / 256)

-- the number that bytes give
unfoldable pub number_of : List ℕ → ℕ
number_of [] = 0
number_of (b ∷ bs) = b + 256 * number_of bs

-- whether the first n bytes of b give a number below that of the first n of c, compared from the last byte down
unfoldable pub below_from : ℕ → List ℕ → List ℕ → Bool
below_from zero b c = false
below_from (suc n) b c = cond (eqb (get_or b n 0) (get_or c n 0)) (below_from n b c) (ltb (get_or b n 0) (get_or c n 0))

-- whether eight bytes are a word's: below p = 2^64 - 2^32 + 1, compared from the top byte
unfoldable pub is_word : List ℕ → Bool
is_word b = below_from 8 b (1 ∷ 0 ∷ 0 ∷ 0 ∷ 255 ∷ 255 ∷ 255 ∷ 255 ∷ [])
