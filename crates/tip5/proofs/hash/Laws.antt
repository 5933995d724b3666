-- Hashing: the padded input and its blocks. Assumes nothing.
use mathlib.Core.List.{List, ◌∷◌, ◌++◌}
use mathlib.Core.Path.{◌≡◌, refl, sym, ap, ◌∙◌}
use Prim.Native.Nat.{ℕ, suc, ◌+◌, ◌*◌, ◌-◌, ◌/◌, ◌%◌, ◌<◌, ◌≤◌}
use native.Mathlib.Numerals.{add-one}
use native.Mathlib.Omega.{arith}
use lib.Dec.{lit<}
use lib.ListN.{length, drop, get_or, replicate, length-append, length-replicate, get_or-append}
use lib.Seq.{get_or_at, get_or-append-add}
use Rattle.field.specs.Base.{p}
use Rattle.tip5.specs.Hash.{hash10_of, padded_of, block_of, absorbed, hash_varlen_of}
use Rattle.tip5.specs.Permutation.{permutation_of}
use Rattle.tip5.specs.Sponge.{new_of, absorb_of}
use Rattle.tip5.specs.Tab.{tab}
use Rattle.tip5.specs.Words.{Words}
use Rattle.tip5.specs.declared.sponge.Domain.TheVariants.{VariableLength}
use Rattle.tip5.proofs.Tab.{tab-part, take_below, zeros_at}
use Rattle.tip5.proofs.permutation.Laws.{permutation-words}

pub padded-before : (xs : List ℕ) (k : ℕ) → k < length xs → get_or xs k 0 ≡ get_or (padded_of xs) k 0
unfolding padded_of
padded-before xs k h = sym (get_or-append xs _ 0 k h)

pub padded-one : (xs : List ℕ) (k : ℕ) → k ≡ length xs → 1 ≡ get_or (padded_of xs) k 0
unfolding padded_of
padded-one xs k h = sym (get_or_at xs 1 _ 0 k (sym h))

past : (xs : List ℕ) (n k : ℕ) → get_or (xs ++ (1 ∷ replicate n 0)) (length xs + suc k) 0 ≡ 0
past xs n k = get_or-append-add xs (1 ∷ replicate n 0) (suc k) 0 ∙ zeros_at n k

pub padded-after : (xs : List ℕ) (k : ℕ) → length xs < k → 0 ≡ get_or (padded_of xs) k 0
unfolding padded_of
padded-after xs k h =
    let e : length xs + suc (k - length xs - 1) ≡ k = omega arith in
    sym (past xs (9 - length xs % 10) (k - length xs - 1)) ∙ ap (λ (j : ℕ). get_or (xs ++ (1 ∷ replicate (9 - length xs % 10) 0)) j 0) e

-- the padded input has whole blocks
pub padded-length : (xs : List ℕ) → length (padded_of xs) ≡ 10 * (length xs / 10 + 1)
unfolding padded_of
padded-length xs = length-append xs _ ∙ ap (λ (n : ℕ). length xs + suc n) (length-replicate (9 - length xs % 10) 0) ∙ omega arith

abbrev pub word_of : List ℕ → ℕ → ℕ → ℕ
word_of xs n j = get_or (padded_of xs) (10 * n + j) 0

pub block-is : (xs : List ℕ) (n : ℕ) → 10 * n ≤ length xs → block_of n (padded_of xs) ≡ tab (word_of xs n) 10
unfolding block_of
block-is xs n h = tab-part (padded_of xs) (10 * n) 10 (omega (arith, padded-length xs))

-- ---- the loop of `hash_varlen`

pub absorbed-zero : (xs : List ℕ) → absorbed 0 xs ≡ new_of VariableLength
unfolding absorbed
absorbed-zero xs = refl

next : (n : ℕ) (xs : List ℕ) → absorbed (suc n) xs ≡ absorb_of (absorbed n xs) (block_of n xs)
unfolding absorbed
next n xs = refl

pub absorbed-more : (n : ℕ) (xs : List ℕ) → absorbed (n + 1) xs ≡ absorb_of (absorbed n xs) (block_of n xs)
absorbed-more n xs = ap (λ (k : ℕ). absorbed k xs) (add-one n) ∙ next n xs

-- ---- digests are words

pub hash10-words : (xs : List ℕ) → Words (hash10_of xs)
unfolding hash10_of
hash10-words xs = take_below 5 (permutation_of (xs ++ replicate 6 1)) p (lit< tt) (permutation-words (xs ++ replicate 6 1))

absorbed-words : (n : ℕ) (xs : List ℕ) → Words (absorbed (n + 1) xs).words
absorbed-words n xs = rw (absorbed-more n xs) (permutation-words (block_of n xs ++ drop 10 (absorbed n xs).words))

pub hash-varlen-words : (xs : List ℕ) → Words (hash_varlen_of xs)
unfolding hash_varlen_of
hash-varlen-words xs =
    take_below 5 (absorbed (length xs / 10 + 1) (padded_of xs)).words p (lit< tt) (absorbed-words (length xs / 10) (padded_of xs))
