-- Numbers and bytes: back and forth, and that bytes compared from the top byte are numbers compared. Assumes nothing.
use mathlib.Core.Path.{◌≡◌, refl, sym, ap, ◌∙◌}
use mathlib.Core.Bool.{Bool, true, false}
use mathlib.Core.List.{List, [], ◌∷◌, ◌++◌}
use Prim.Native.Nat.{ℕ, zero, suc, ◌+◌, ◌-◌, ◌*◌, ◌/◌, ◌%◌, ◌^◌, ◌≤◌, ◌<◌}
use native.Mathlib.Omega.{arith}
use native.Mathlib.Nat.{pow-succ'}
use borrow.Author.Tests.{eqb-true, eqb-false, ltb-true, ltb-false, lt-ltb, le-ltb}
use lib.ListN.{length, get_or, take}
use lib.Seq.{take-suc, take_all, length-take-le}
use lib.Dec.{eqb, ltb, lit<}
use Rattle.field.specs.Base.{p}
use Rattle.choices.specs.Choice.{cond}
use Rattle.machine.specs.Bytes.{Bytes, none, more, bytes_of, number_of, below_from, is_word}

-- ---- back and forth

pub number_back : (n v : ℕ) → v < 256 ^ n → number_of (bytes_of n v) ≡ v
unfolding bytes_of number_of
number_back zero v h = omega arith
number_back (suc n) v h =
    let l : v / 256 < 256 ^ n = omega (arith, rw pow-succ' at h) in
    omega (arith, number_back n (v / 256) l)

pub bytes_back : {b : List ℕ} → Bytes b → bytes_of (length b) (number_of b) ≡ b
unfolding bytes_of number_of
bytes_back none = refl
bytes_back (more {x = x} {s = s} h k) =
    let e : (x + 256 * number_of s) % 256 ≡ x = omega arith in
    let f : (x + 256 * number_of s) / 256 ≡ number_of s = omega arith in
    rw (e, f) (ap (λ (u : List ℕ). x ∷ u) (bytes_back k))

pub number_small : {b : List ℕ} → Bytes b → number_of b < 256 ^ length b
unfolding number_of
number_small none = omega arith
number_small (more {x = x} {s = s} h k) = rw pow-succ' (omega (arith, number_small k))

pub bytes-length : (n v : ℕ) → length (bytes_of n v) ≡ n
unfolding bytes_of
bytes-length zero v = refl
bytes-length (suc n) v = ap suc (bytes-length n (v / 256))

pub bytes-bytes : (n v : ℕ) → Bytes (bytes_of n v)
unfolding bytes_of
bytes-bytes zero v = none
bytes-bytes (suc n) v = more {x = v % 256} (omega arith) (bytes-bytes n (v / 256))

-- ---- comparing

pub bytes_take : {b : List ℕ} (n : ℕ) → Bytes b → Bytes (take n b)
bytes_take zero none = none
bytes_take (suc n) none = none
bytes_take zero (more h k) = none
bytes_take (suc n) (more h k) = more h (bytes_take n k)

number_snoc : (s : List ℕ) (x : ℕ) → number_of (s ++ (x ∷ [])) ≡ number_of s + 256 ^ length s * x
unfolding number_of
number_snoc [] x = omega arith
number_snoc (y ∷ s) x = rw pow-succ' (omega (arith, number_snoc s x))

-- a top digit decides; x and y are what stands below it, m the place's weight
top-less : (m x y a b : ℕ) → x < m → a < b → x + m * a < y + m * b
top-less m x y a b h l = go (b - (a + 1)) (omega arith)
  where
    go : (k : ℕ) → b ≡ a + 1 + k → x + m * a < y + m * b
    go k e = rw e (omega arith)

top-same : (m x y a : ℕ) → ltb (x + m * a) (y + m * a) ≡ ltb x y
top-same m x y a = go (ltb x y) refl
  where
    go : (t : Bool) → ltb x y ≡ t → ltb (x + m * a) (y + m * a) ≡ t
    go true e = lt-ltb (x + m * a) (y + m * a) (omega (arith, ltb-true x y e))
    go false e = le-ltb (x + m * a) (y + m * a) (omega (arith, ltb-false x y e))

top-other : (m x y a b : ℕ) → x < m → y < m → (a ≡ b → ⊥) → ltb (x + m * a) (y + m * b) ≡ ltb a b
top-other m x y a b h k n = go (ltb a b) refl
  where
    go : (t : Bool) → ltb a b ≡ t → ltb (x + m * a) (y + m * b) ≡ t
    go true e = lt-ltb _ _ (top-less m x y a b h (ltb-true a b e))
    go false e =
        let l : b < a = omega (arith, ltb-false a b e) in
        le-ltb (x + m * a) (y + m * b) (omega (arith, top-less m y x b a k l))

pub below-is : (n : ℕ) {b c : List ℕ} → Bytes b → Bytes c → n ≤ length b → n ≤ length c → below_from n b c ≡ ltb (number_of (take n b)) (number_of (take n c))
unfolding below_from number_of
below-is zero h k l m = refl
below-is (suc n) {b} {c} h k l m =
    rw (take-suc b n 0 l, take-suc c n 0 m, number_snoc (take n b) (get_or b n 0), number_snoc (take n c) (get_or c n 0), length-take-le n b (omega arith), length-take-le n c (omega arith))
    (go (eqb (get_or b n 0) (get_or c n 0)) refl (below-is n h k (omega arith) (omega arith)))
  where
    small : (s : List ℕ) → Bytes s → n ≤ length s → number_of (take n s) < 256 ^ n
    small s q r = rw (length-take-le n s r) at (number_small (bytes_take n q))

    go : (t : Bool) → eqb (get_or b n 0) (get_or c n 0) ≡ t → below_from n b c ≡ ltb (number_of (take n b)) (number_of (take n c)) →
        cond t (below_from n b c) (ltb (get_or b n 0) (get_or c n 0)) ≡ ltb (number_of (take n b) + 256 ^ n * get_or b n 0) (number_of (take n c) + 256 ^ n * get_or c n 0)
    go true e ih = rw (eqb-true (get_or b n 0) (get_or c n 0) e) (ih ∙ sym (top-same (256 ^ n) _ _ (get_or c n 0)))
    go false e ih = sym (top-other (256 ^ n) _ _ (get_or b n 0) (get_or c n 0) (small b h (omega arith)) (small c k (omega arith)) (eqb-false (get_or b n 0) (get_or c n 0) e))

-- ---- words

-- the eight bytes of p
modulus_bytes : Bytes (1 ∷ 0 ∷ 0 ∷ 0 ∷ 255 ∷ 255 ∷ 255 ∷ 255 ∷ [])
modulus_bytes = more (lit< tt) (more (lit< tt) (more (lit< tt) (more (lit< tt) (more (lit< tt) (more (lit< tt) (more (lit< tt) (more (lit< tt) none)))))))

-- eight bytes are a word's exactly if they give a number below p
pub is_word_lem : {b : List ℕ} → Bytes b → length b ≡ 8 → is_word b ≡ ltb (number_of b) p
unfolding is_word number_of
is_word_lem {b} h e = below-is 8 h modulus_bytes (omega arith) (omega arith) ∙ ap (λ (x : List ℕ). ltb (number_of x) p) (take_all 8 b (omega arith))

pub is_word_of : (v : ℕ) → v < 18446744073709551616 → is_word (bytes_of 8 v) ≡ ltb v p
is_word_of v h = is_word_lem (bytes-bytes 8 v) (bytes-length 8 v) ∙ ap (λ (x : ℕ). ltb x p) (number_back 8 v h)
