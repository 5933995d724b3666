-- Laws of lists of words. Assumes nothing.
use mathlib.Core.Path.{◌≡◌, refl, sym, ◌∙◌}
use mathlib.Core.Bool.{Bool, true, false}
use mathlib.Core.List.{List, [], ◌∷◌, ◌++◌}
use Prim.Native.Nat.{ℕ, zero, suc, ◌+◌, ◌-◌, ◌≤◌, ◌<◌}
use native.Mathlib.Omega.{arith}
use borrow.Author.Tests.{eqb-true, eqb-false, lt-ltb, le-ltb, ltb-true, ltb-false}
use lib.ListN.{length, take, drop, get_or, set, replicate}
use lib.Seq.{take-suc, take-length, get_or-take}
use lib.Dec.{eqb, ltb, lit<}
use Rattle.field.specs.Base.{p}
use Rattle.choices.specs.Choice.{above_of}
use Rattle.machine.specs.Words.{Words, none, more, word_of2, words_of, zeros_from}
use Rattle.choices.proofs.Choice.{first_zero, first-nil, above-not, above-is, above-nil}

pub words_get_d : {s : List ℕ} (i : ℕ) → Words s → get_or s i 0 < p
words_get_d i none = lit< tt
words_get_d zero (more h b) = h
words_get_d (suc i) (more h b) = words_get_d i b

pub words-set : {s : List ℕ} (i v : ℕ) → v < p → Words s → Words (set s i v)
words-set i v k none = none
words-set zero v k (more h b) = more k b
words-set (suc i) v k (more h b) = more h (words-set i v k b)

pub words_take : {s : List ℕ} (n : ℕ) → Words s → Words (take n s)
words_take zero none = none
words_take (suc n) none = none
words_take zero (more h b) = none
words_take (suc n) (more h b) = more h (words_take n b)

pub words-drop : {s : List ℕ} (n : ℕ) → Words s → Words (drop n s)
words-drop zero none = none
words-drop (suc n) none = none
words-drop zero (more h b) = more h b
words-drop (suc n) (more h b) = words-drop n b

pub words_append : {s t : List ℕ} → Words s → Words t → Words (s ++ t)
words_append none c = c
words_append (more h b) c = more h (words_append b c)

pub words_zeros : (n : ℕ) → Words (replicate n 0)
words_zeros zero = none
words_zeros (suc n) = more (lit< tt) (words_zeros n)

pub words-all : (s : List ℕ) → ((i : ℕ) → i < length s → get_or s i 0 < p) → Words s
words-all [] h = none
words-all (x ∷ s) h = more (h 0 (omega arith)) (words-all s (λ i l. h (suc i) (omega arith)))

pub zeros_get_d : (n i : ℕ) → ◌≡◌ {A = ℕ} (get_or (replicate n 0) i 0) 0
zeros_get_d zero i = refl
zeros_get_d (suc n) zero = refl
zeros_get_d (suc n) (suc i) = zeros_get_d n i

-- ---- the tests of place A

pub word_fine : (x : ℕ) → x < p → word_of2 x ≡ 0
unfolding word_of2
word_fine x h = rw (lt-ltb x p h)

pub word_not : (x : ℕ) → p ≤ x → word_of2 x ≡ 2
unfolding word_of2
word_not x h = rw (le-ltb x p h)

pub word_nil : (x : ℕ) → word_of2 x ≡ 0 → x < p
word_nil x h = go (ltb x p) refl
  where
    go : (t : Bool) → ltb x p ≡ t → x < p
    go true e = ltb-true x p e
    go false e = absurd (omega (arith, h, word_not x (ltb-false x p e)))

-- the test as the code makes it: above p - 1
pub word_above : (x : ℕ) → above_of x (p - 1) 2 ≡ word_of2 x
word_above x = go (ltb x p) refl
  where
    go : (t : Bool) → ltb x p ≡ t → above_of x (p - 1) 2 ≡ word_of2 x
    go true e =
        let l : x < p = ltb-true x p e in
        above-not x (p - 1) 2 (omega arith) ∙ sym (word_fine x l)
    go false e =
        let l : p ≤ x = ltb-false x p e in
        above-is x (p - 1) 2 (omega arith) ∙ sym (word_not x l)

pub words-at : (s : List ℕ) (n i : ℕ) → i < n → words_of s n ≡ 0 → get_or s i 0 < p
unfolding words_of
words-at s zero i h e = absurd (omega arith)
words-at s (suc n) i h e = go (eqb i n) refl (λ l. words-at s n i l (first-nil _ _ e).0)
  where
    go : (t : Bool) → eqb i n ≡ t → (i < n → get_or s i 0 < p) → get_or s i 0 < p
    go true q ih = rw (eqb-true i n q) (word_nil (get_or s n 0) (first-nil _ _ e).1)
    go false q ih = let y : i ≡ n → ⊥ = eqb-false i n q in ih (omega arith)

pub words-nil : (s : List ℕ) (n : ℕ) → n ≤ length s → words_of s n ≡ 0 → Words (take n s)
unfolding words_of
words-nil s zero h e = none
words-nil s (suc n) h e =
    let k = first-nil _ _ e in
    rw (take-suc s n 0 h) (words_append (words-nil s n (omega arith) k.0) (more (word_nil (get_or s n 0) k.1) none))

-- the whole list
pub words-whole : (s : List ℕ) → words_of s (length s) ≡ 0 → Words s
words-whole s e = rw (take-length s) at (words-nil s (length s) (omega arith) e)

pub words-fine : (s : List ℕ) (n : ℕ) → ((i : ℕ) → i < n → get_or s i 0 < p) → words_of s n ≡ 0
unfolding words_of
words-fine s zero h = refl
words-fine s (suc n) h = first_zero _ _ (words-fine s n (λ i l. h i (omega arith))) ∙ word_fine (get_or s n 0) (h n (omega arith))

-- any so many of a list of words
pub words_test : {s : List ℕ} (n : ℕ) → Words s → words_of s n ≡ 0
words_test {s} n b = words-fine s n (λ i l. words_get_d i b)

-- the first n of a list of which the first n or more are words
pub words_used : (s : List ℕ) (n m : ℕ) → m ≤ n → Words (take n s) → words_of s m ≡ 0
words_used s n m h b = words-fine s m (λ i l. rw (← get_or-take n s i 0 (omega arith)) (words_get_d i b))

pub words-alike : (s t : List ℕ) (n : ℕ) → ((k : ℕ) → k < n → get_or s k 0 ≡ get_or t k 0) → words_of s n ≡ words_of t n
unfolding words_of
words-alike s t zero h = refl
words-alike s t (suc n) h = rw (words-alike s t n (λ k l. h k (omega arith)), h n (omega arith))

pub zeros_nil : (s : List ℕ) (i n : ℕ) → zeros_from s i n ≡ 0 → (k : ℕ) → i ≤ k → k < i + n → get_or s k 0 ≡ 0
unfolding zeros_from
zeros_nil s i zero e k h l = absurd (omega arith)
zeros_nil s i (suc n) e k h l = go (eqb k (i + n)) refl (λ m. zeros_nil s i n (first-nil _ _ e).0 k h m)
  where
    go : (t : Bool) → eqb k (i + n) ≡ t → (k < i + n → get_or s k 0 ≡ 0) → get_or s k 0 ≡ 0
    go true q ih = rw (eqb-true k (i + n) q) (omega (arith, above-nil (get_or s (i + n) 0) 0 5 (omega arith) (first-nil _ _ e).1))
    go false q ih = let y : k ≡ i + n → ⊥ = eqb-false k (i + n) q in ih (omega arith)

pub zeros_fine : (s : List ℕ) (i n : ℕ) → ((k : ℕ) → i ≤ k → k < i + n → get_or s k 0 ≡ 0) → zeros_from s i n ≡ 0
unfolding zeros_from
zeros_fine s i zero h = refl
zeros_fine s i (suc n) h =
    let z : get_or s (i + n) 0 ≡ 0 = h (i + n) (omega arith) (omega arith) in
    first_zero _ _ (zeros_fine s i n (λ k l m. h k l (omega arith))) ∙ above-not (get_or s (i + n) 0) 0 5 (omega arith)
