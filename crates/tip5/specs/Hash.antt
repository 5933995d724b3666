-- Tip5: hashing. A digest is 5 words.
use Rattle.std.specs.Prelude.{List, ◌∷◌, ◌++◌, ℕ, zero, suc, ◌+◌, ◌*◌, ◌-◌, ◌/◌, ◌%◌, length, take, drop, replicate}
use Rattle.tip5.specs.declared.sponge.Sponge.{Sponge}
use Rattle.tip5.specs.declared.sponge.Domain.TheVariants.{VariableLength}
use Rattle.tip5.specs.Permutation.{permutation_of}
use Rattle.tip5.specs.Sponge.{new_of, absorb_of}

-- Tip5: hash_10(x) is the first five words after the permutation of x followed by six ones
unfoldable pub hash10_of : List ℕ → List ℕ
hash10_of xs = take 5 (permutation_of (xs ++ replicate 6 1))

-- Tip5: variable-length: append a 1, then zeros up to a multiple of ten
unfoldable pub padded_of : List ℕ → List ℕ
padded_of xs = xs ++ (1 ∷ replicate (9 - length xs % 10) 0)

unfoldable pub block_of : ℕ → List ℕ → List ℕ
block_of n xs = take 10 (drop (10 * n) xs)

-- Tip5: start from sixteen zeros; for each block of ten overwrite words 0 to 9 by it and permute
unfoldable pub absorbed : ℕ → List ℕ → Sponge
absorbed zero xs = new_of VariableLength
absorbed (suc n) xs = absorb_of (absorbed n xs) (block_of n xs)

-- Tip5: the digest is words 0 to 4
unfoldable pub hash_varlen_of : List ℕ → List ℕ
hash_varlen_of xs = take 5 (absorbed (length xs / 10 + 1) (padded_of xs)).words
