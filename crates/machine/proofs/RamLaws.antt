-- Laws of RAM: where an address has its cell, what is held, what a write leaves, cells that are alike, cells that ascend.
-- Assumes nothing.
use mathlib.Core.Path.{◌≡◌, refl, sym, ap, ◌∙◌}
use mathlib.Core.Bool.{Bool, true, false, true≢false}
use mathlib.Core.List.{List}
use Prim.Native.Nat.{ℕ, zero, suc, ◌+◌, ◌-◌, ◌≤◌, ◌<◌, min}
use native.Mathlib.Omega.{arith}
use borrow.Author.Tests.{ltb-true, ltb-false, eqb-true, eqb-false, lt-ltb, le-ltb, eq-eqb, ne_eqb}
use lib.ListN.{length, take, get_or, set, length-set}
use lib.Seq.{get_or-set_same, get_or-set_other, get_or-take, length-take-le, take-set-lt}
use lib.Dec.{eqb, ltb, lit<}
use Rattle.choices.specs.Choice.{cond, first_of}
use Rattle.field.specs.Base.{p}
use Rattle.machine.specs.Words.{Words}
use Rattle.machine.specs.Ram.{Cells, cells, at, absent, place_from, place_of, stands_at, find, held_at, held, has_at, has, inserted, stored, Alike, cells1, cells2, cells5, fall_of, falls_of}
use Rattle.choices.proofs.Choice.{first_zero, first-nil}
use Rattle.machine.proofs.Words.{words_get_d, words-all, words-set, words-alike}
use Rattle.machine.proofs.Moves.{inserted-length, inserted_before, inserted_here, inserted_up, inserted-all, set-alike, inserted-alike}

-- ---- the first place that is not below an address, or the end

pub place_within : (s : List ℕ) (a f i : ℕ) → place_from s a f i ≤ i + f
unfolding place_from
place_within s a zero i = omega arith
place_within s a (suc f) i = go (ltb (get_or s i 0) a) (place_within s a f (suc i))
  where
    go : (t : Bool) → place_from s a f (suc i) ≤ suc i + f → cond t (place_from s a f (suc i)) i ≤ i + suc f
    go true h = omega arith
    go false h = omega arith

-- it is the place before which all are below and which is not
pub place-first : (s : List ℕ) (a f i q : ℕ) → i ≤ q → q ≤ i + f → ((k : ℕ) → i ≤ k → k < q → get_or s k 0 < a) → (q < i + f → a ≤ get_or s q 0) → place_from s a f i ≡ q
unfolding place_from
place-first s a zero i q l h n e = omega arith
place-first s a (suc f) i q l h n e = go (ltb (get_or s i 0) a) refl (λ m. place-first s a f (suc i) q m (omega arith) (λ k x. n k (omega arith)) (λ x. e (omega arith)))
  where
    go : (t : Bool) → ltb (get_or s i 0) a ≡ t → (suc i ≤ q → place_from s a f (suc i) ≡ q) → cond t (place_from s a f (suc i)) i ≡ q
    go true w ih = split (eqb i q) refl
      where
        split : (t : Bool) → eqb i q ≡ t → place_from s a f (suc i) ≡ q
        split true z =
            let y : i ≡ q = eqb-true i q z in
            let m : a ≤ get_or s i 0 = rw y (e (omega arith)) in
            absurd (omega (arith, ltb-true (get_or s i 0) a w))
        split false z = let y : i ≡ q → ⊥ = eqb-false i q z in ih (omega arith)
    go false w ih = split (ltb i q) refl
      where
        split : (t : Bool) → ltb i q ≡ t → i ≡ q
        split true z = absurd (omega (arith, n i (omega arith) (ltb-true i q z), ltb-false (get_or s i 0) a w))
        split false z = omega (arith, ltb-false i q z)

pub place_before : (s : List ℕ) (a f i k : ℕ) → i ≤ k → k < place_from s a f i → get_or s k 0 < a
unfolding place_from
place_before s a zero i k l h = absurd (omega arith)
place_before s a (suc f) i k l h = go (ltb (get_or s i 0) a) refl h (λ m n. place_before s a f (suc i) k m n)
  where
    go : (t : Bool) → ltb (get_or s i 0) a ≡ t → k < cond t (place_from s a f (suc i)) i → (suc i ≤ k → k < place_from s a f (suc i) → get_or s k 0 < a) → get_or s k 0 < a
    go false q n ih = absurd (omega arith)
    go true q n ih = split (eqb i k) refl
      where
        split : (t : Bool) → eqb i k ≡ t → get_or s k 0 < a
        split true z = rw (← eqb-true i k z) (ltb-true (get_or s i 0) a q)
        split false z = let y : i ≡ k → ⊥ = eqb-false i k z in ih (omega arith) n

pub place_here : (s : List ℕ) (a f i : ℕ) → place_from s a f i < i + f → a ≤ get_or s (place_from s a f i) 0
unfolding place_from
place_here s a zero i h = absurd (omega arith)
place_here s a (suc f) i h = go (ltb (get_or s i 0) a) refl h (λ m. place_here s a f (suc i) m)
  where
    go : (t : Bool) → ltb (get_or s i 0) a ≡ t → cond t (place_from s a f (suc i)) i < i + suc f → (place_from s a f (suc i) < suc i + f → a ≤ get_or s (place_from s a f (suc i)) 0) →
        a ≤ get_or s (cond t (place_from s a f (suc i)) i) 0
    go true q l ih = ih (omega arith)
    go false q l ih = ltb-false (get_or s i 0) a q

place-alike : (s t : List ℕ) (a f i : ℕ) → ((k : ℕ) → k < i + f → get_or s k 0 ≡ get_or t k 0) → place_from s a f i ≡ place_from t a f i
unfolding place_from
place-alike s t a zero i h = refl
place-alike s t a (suc f) i h = rw (h i (omega arith), place-alike s t a f (suc i) (λ k l. h k (omega arith)))

-- ---- the same over cells

pub place-le : (c : Cells) (a : ℕ) → place_of c a ≤ c.count
unfolding place_of
place-le c a = omega (arith, place_within c.addresses a c.count 0)

pub place-below : (c : Cells) (a k : ℕ) → k < place_of c a → get_or c.addresses k 0 < a
unfolding place_of
place-below c a k h = place_before c.addresses a c.count 0 k (omega arith) h

pub place-not : (c : Cells) (a : ℕ) → place_of c a < c.count → a ≤ get_or c.addresses (place_of c a) 0
unfolding place_of
place-not c a h = place_here c.addresses a c.count 0 (omega arith)

pub place_is : (c : Cells) (a q : ℕ) → q ≤ c.count → ((k : ℕ) → k < q → get_or c.addresses k 0 < a) → (q < c.count → a ≤ get_or c.addresses q 0) → place_of c a ≡ q
unfolding place_of
place_is c a q h n e = place-first c.addresses a c.count 0 q (omega arith) (omega arith) (λ k x y. n k y) (λ x. e (omega arith))

-- whether an address stands at its place
abbrev pub stands : Cells → ℕ → Bool
stands c a = stands_at c (place_of c a) a

pub stands-yes : (c : Cells) (i a : ℕ) → stands_at c i a ≡ true → (i < c.count) × (get_or c.addresses i 0 ≡ a)
unfolding stands_at
stands-yes c i a h = go (ltb i c.count) refl h
  where
    go : (t : Bool) → ltb i c.count ≡ t → cond t (eqb (get_or c.addresses i 0) a) false ≡ true → (i < c.count) × (get_or c.addresses i 0 ≡ a)
    go true e w = (ltb-true i c.count e, eqb-true (get_or c.addresses i 0) a w)
    go false e w = absurd (true≢false (sym w))

pub stands-is : (c : Cells) (i a : ℕ) → i < c.count → get_or c.addresses i 0 ≡ a → stands_at c i a ≡ true
unfolding stands_at
stands-is c i a h e = rw (lt-ltb i c.count h, eq-eqb (get_or c.addresses i 0) a e)

pub stands-not : (c : Cells) (i a : ℕ) → (i < c.count → get_or c.addresses i 0 ≡ a → ⊥) → stands_at c i a ≡ false
unfolding stands_at
stands-not c i a n = go (ltb i c.count) refl
  where
    go : (t : Bool) → ltb i c.count ≡ t → cond t (eqb (get_or c.addresses i 0) a) false ≡ false
    go true e = ne_eqb (get_or c.addresses i 0) a (n (ltb-true i c.count e))
    go false e = refl

stands-no : (c : Cells) (i a : ℕ) → stands_at c i a ≡ false → i < c.count → get_or c.addresses i 0 ≡ a → ⊥
stands-no c i a h l e = true≢false (sym (stands-is c i a l e) ∙ h)

-- ---- find, has and held by the place

pub find_at : (c : Cells) (a : ℕ) → stands c a ≡ true → find c a ≡ at (place_of c a)
unfolding find
find_at c a h = rw h

pub find_absent : (c : Cells) (a : ℕ) → stands c a ≡ false → find c a ≡ absent (place_of c a)
unfolding find
find_absent c a h = rw h

pub has_is : (c : Cells) (a : ℕ) → has c a ≡ stands c a
unfolding has
has_is c a = go (stands c a) refl
  where
    go : (t : Bool) → stands c a ≡ t → has_at (find c a) ≡ t
    go true e = rw (find_at c a e)
    go false e = rw (find_absent c a e)

-- whatever the values are
pub has_addresses : (c : Cells) (v : List ℕ) (a : ℕ) → has c a ≡ has (cells c.count c.addresses v) a
unfolding has find place_of stands_at
has_addresses c v a = refl

pub held_is : (c : Cells) (a : ℕ) → held c a ≡ cond (stands c a) (get_or c.values (place_of c a) 0) 0
unfolding held
held_is c a = go (stands c a) refl
  where
    go : (t : Bool) → stands c a ≡ t → held_at c (find c a) ≡ cond t (get_or c.values (place_of c a) 0) 0
    go true e = rw (find_at c a e)
    go false e = rw (find_absent c a e)

-- a write where the address stands, and where it does not
stored_at : (c : Cells) (a v : ℕ) → stands c a ≡ true → stored c a v ≡ cells c.count c.addresses (set c.values (place_of c a) v)
unfolding stored
stored_at c a v h = rw (find_at c a h)

stored_new : (c : Cells) (a v : ℕ) → stands c a ≡ false →
    stored c a v ≡ cells (c.count + 1) (inserted c.addresses c.count (place_of c a) a) (inserted c.values c.count (place_of c a) v)
unfolding stored
stored_new c a v h = rw (find_absent c a h)

-- where an address is found it stands, at a used place
pub found_at : (c : Cells) (a i : ℕ) → find c a ≡ at i → (i < c.count) × (get_or c.addresses i 0 ≡ a)
found_at c a i h = go (stands c a) refl
  where
    go : (t : Bool) → stands c a ≡ t → (i < c.count) × (get_or c.addresses i 0 ≡ a)
    go true e =
        let q = find_at c a e in
        let k : place_of c a ≡ i = cc in
        rw (← k) (stands-yes c (place_of c a) a e)
    go false e =
        let q = find_absent c a e in
        let z : ◌≡◌ {A = ℕ} 0 1 = cc in
        absurd (omega arith)

-- and where it is absent its place is the one found: all before are below, and a used one there is above
pub found-absent : (c : Cells) (a i : ℕ) → find c a ≡ absent i →
    (i ≤ c.count) × ((k : ℕ) → k < i → get_or c.addresses k 0 < a) × (i < c.count → a < get_or c.addresses i 0)
found-absent c a i h = go (stands c a) refl
  where
    go : (t : Bool) → stands c a ≡ t → (i ≤ c.count) × ((k : ℕ) → k < i → get_or c.addresses k 0 < a) × (i < c.count → a < get_or c.addresses i 0)
    go true e =
        let q = find_at c a e in
        let z : ◌≡◌ {A = ℕ} 0 1 = cc in
        absurd (omega arith)
    go false e =
        let q = find_absent c a e in
        let k : place_of c a ≡ i = cc in
        rw (← k) (
          place-le c a,
          place-below c a,
          λ l. let n : get_or c.addresses (place_of c a) 0 ≡ a → ⊥ = stands-no c (place_of c a) a e l in omega (arith, place-not c a l),
        )

-- ---- a write adds at most one cell, where the address had none, and keeps the slices' lengths

module _ (c : Cells) (a v : ℕ) where
  pub stored-count : (stored c a v).count ≡ cond (has c a) c.count (c.count + 1)
  stored-count = rw (has_is c a) (go (stands c a) refl)
    where
      go : (t : Bool) → stands c a ≡ t → (stored c a v).count ≡ cond t c.count (c.count + 1)
      go true e = rw (stored_at c a v e)
      go false e = rw (stored_new c a v e)

  pub stored_more : c.count ≤ (stored c a v).count
  stored_more = rw stored-count (go (has c a))
    where
      go : (t : Bool) → c.count ≤ cond t c.count (c.count + 1)
      go true = omega arith
      go false = omega arith

  pub stored_addresses : length (stored c a v).addresses ≡ length c.addresses
  stored_addresses = go (stands c a) refl
    where
      go : (t : Bool) → stands c a ≡ t → length (stored c a v).addresses ≡ length c.addresses
      go true e = rw (stored_at c a v e)
      go false e = rw (stored_new c a v e) (inserted-length c.addresses c.count (place_of c a) a)

  pub stored_values : length (stored c a v).values ≡ length c.values
  stored_values = go (stands c a) refl
    where
      go : (t : Bool) → stands c a ≡ t → length (stored c a v).values ≡ length c.values
      go true e = rw (stored_at c a v e) (length-set c.values (place_of c a) v)
      go false e = rw (stored_new c a v e) (inserted-length c.values c.count (place_of c a) v)

  -- a new cell
  count_new : stands c a ≡ false → (stored c a v).count ≡ c.count + 1
  count_new e = rw (stored_new c a v e)

-- ---- words stay words

used_words : (s : List ℕ) (n : ℕ) → n ≤ length s → ((k : ℕ) → k < n → get_or s k 0 < p) → Words (take n s)
used_words s n l h =
    words-all (take n s)
    (λ i m. let k : i < n = omega (arith, length-take-le n s l) in rw (get_or-take n s i 0 k) (h i k))

words_used : (s : List ℕ) (n : ℕ) → Words (take n s) → (k : ℕ) → k < n → get_or s k 0 < p
words_used s n b k l = rw (← get_or-take n s k 0 l) (words_get_d k b)

words-inserted : (s : List ℕ) (n i x : ℕ) → i ≤ n → x < p → n + 1 ≤ length s → Words (take n s) → Words (take (n + 1) (inserted s n i x))
words-inserted s n i x h k l b =
    used_words (inserted s n i x) (n + 1) (omega (arith, inserted-length s n i x))
    (inserted-all s n i x h (omega arith) (λ y. y < p) k (words_used s n b))

pub stored-words : (c : Cells) (a v : ℕ) → v < p → (stored c a v).count ≤ length c.values → Words (take c.count c.values) → Words (take (stored c a v).count (stored c a v).values)
stored-words c a v h l b = go (stands c a) refl
  where
    go : (t : Bool) → stands c a ≡ t → Words (take (stored c a v).count (stored c a v).values)
    go true e =
        let k = (stands-yes c (place_of c a) a e).0 in
        rw (stored_at c a v e, take-set-lt c.count c.values (place_of c a) v k) (words-set (place_of c a) v h b)
    go false e = rw (stored_new c a v e) (words-inserted c.values c.count (place_of c a) v (place-le c a) h (omega (arith, count_new c a v e)) b)

pub stored_addresses_words : (c : Cells) (a v : ℕ) → a < p → (stored c a v).count ≤ length c.addresses → Words (take c.count c.addresses) → Words (take (stored c a v).count (stored c a v).addresses)
stored_addresses_words c a v h l b = go (stands c a) refl
  where
    go : (t : Bool) → stands c a ≡ t → Words (take (stored c a v).count (stored c a v).addresses)
    go true e = rw (stored_at c a v e) b
    go false e = rw (stored_new c a v e) (words-inserted c.addresses c.count (place_of c a) a (place-le c a) h (omega (arith, count_new c a v e)) b)

-- what is held is a word
pub held_word : (c : Cells) (a : ℕ) → Words (take c.count c.values) → held c a < p
held_word c a b = rw (held_is c a) (go (stands c a) refl)
  where
    go : (t : Bool) → stands c a ≡ t → cond t (get_or c.values (place_of c a) 0) 0 < p
    go true e = words_used c.values c.count b (place_of c a) (stands-yes c (place_of c a) a e).0
    go false e = lit< tt

-- ---- reading back

-- an address stands at its place in d as in c, with the same value
record Kept (c d : Cells) (b : ℕ) : Type 0 where
  pub stood : stands d b ≡ stands c b
  pub value : stands c b ≡ true → get_or d.values (place_of d b) 0 ≡ get_or c.values (place_of c b) 0

kept-held : {c d : Cells} {b : ℕ} → Kept c d b → held d b ≡ held c b
kept-held {c} {d} {b} k = held_is d b ∙ rw k.stood (go (stands c b) refl) ∙ sym (held_is c b)
  where
    go : (t : Bool) → stands c b ≡ t → cond t (get_or d.values (place_of d b) 0) 0 ≡ cond t (get_or c.values (place_of c b) 0) 0
    go true e = k.value e
    go false e = refl

-- an address stands at j in d where it stands at i in c
stands_move : (c d : Cells) (i j a : ℕ) → (i < c.count → (j < d.count) × (get_or d.addresses j 0 ≡ get_or c.addresses i 0)) → (j < d.count → i < c.count) →
    stands_at d j a ≡ stands_at c i a
unfolding stands_at
stands_move c d i j a h k = go (ltb i c.count) refl
  where
    go : (t : Bool) → ltb i c.count ≡ t → cond (ltb j d.count) (eqb (get_or d.addresses j 0) a) false ≡ cond t (eqb (get_or c.addresses i 0) a) false
    go true e =
        let w = h (ltb-true i c.count e) in
        rw (lt-ltb j d.count w.0, w.1)
    go false e = split (ltb j d.count) refl
      where
        split : (t : Bool) → ltb j d.count ≡ t → cond t (eqb (get_or d.addresses j 0) a) false ≡ false
        split true z = absurd (omega (arith, k (ltb-true j d.count z), ltb-false i c.count e))
        split false z = refl

-- a write where the address stands
module _ (c : Cells) (a v : ℕ) (e : stands c a ≡ true) (pair : c.count ≤ length c.values) where
  abbrev set_in : Cells
  set_in = cells c.count c.addresses (set c.values (place_of c a) v)

  set-place : (b : ℕ) → place_of set_in b ≡ place_of c b
  unfolding place_of
  set-place b = refl

  set-stands : (b : ℕ) → stands set_in b ≡ stands c b
  unfolding stands_at
  set-stands b = rw (set-place b)

  set-held : held set_in a ≡ v
  set-held =
      held_is set_in a
      ∙ rw (set-stands a, e, set-place a) (get_or-set_same c.values (place_of c a) v 0 (omega (arith, stands-yes c (place_of c a) a e)))

  set-kept : (b : ℕ) → (b ≡ a → ⊥) → Kept c set_in b
  set-kept b ne =
      record {
        stood = set-stands b;
        value = λ w. rw (set-place b)
            (get_or-set_other c.values (place_of c a) (place_of c b) v 0
            (λ z. ne (sym (stands-yes c (place_of c b) b w).1 ∙ rw z (stands-yes c (place_of c a) a e).1)));
      }

-- a write where it does not, and there is room
module _ (c : Cells) (a v : ℕ) (e : stands c a ≡ false) (room : c.count < length c.addresses) (pair : length c.addresses ≡ length c.values) where
  abbrev put_in : Cells
  put_in = cells (c.count + 1) (inserted c.addresses c.count (place_of c a) a) (inserted c.values c.count (place_of c a) v)

  address_before : (k : ℕ) → k < place_of c a → get_or put_in.addresses k 0 ≡ get_or c.addresses k 0
  address_before = inserted_before c.addresses c.count (place_of c a) a (place-le c a) room

  address_here : get_or put_in.addresses (place_of c a) 0 ≡ a
  address_here = inserted_here c.addresses c.count (place_of c a) a (place-le c a) room

  address_up : (k : ℕ) → place_of c a ≤ k → k < c.count → get_or put_in.addresses (suc k) 0 ≡ get_or c.addresses k 0
  address_up = inserted_up c.addresses c.count (place_of c a) a (place-le c a) room

  value_before : (k : ℕ) → k < place_of c a → get_or put_in.values k 0 ≡ get_or c.values k 0
  value_before = inserted_before c.values c.count (place_of c a) v (place-le c a) (omega arith)

  value_here : get_or put_in.values (place_of c a) 0 ≡ v
  value_here = inserted_here c.values c.count (place_of c a) v (place-le c a) (omega arith)

  value_up : (k : ℕ) → place_of c a ≤ k → k < c.count → get_or put_in.values (suc k) 0 ≡ get_or c.values k 0
  value_up = inserted_up c.values c.count (place_of c a) v (place-le c a) (omega arith)

  -- what stands at the place is above
  above_new : place_of c a < c.count → a < get_or c.addresses (place_of c a) 0
  above_new l =
      let n : get_or c.addresses (place_of c a) 0 ≡ a → ⊥ = stands-no c (place_of c a) a e l in
      omega (arith, place-not c a l)

  put-place : place_of put_in a ≡ place_of c a
  put-place =
      place_is put_in a (place_of c a) (omega (arith, place-le c a)) (λ k l. rw (address_before k l) (place-below c a k l))
      (λ _. let z = address_here in omega (arith, z))

  put-stands : stands put_in a ≡ true
  put-stands = rw put-place (stands-is put_in (place_of c a) a (omega (arith, place-le c a)) address_here)

  put-held : held put_in a ≡ v
  put-held = held_is put_in a ∙ rw (put-stands, put-place) value_here

  -- an address below it: its place is not behind
  module _ (b : ℕ) (l : b < a) where
    low : place_of c b ≤ place_of c a
    low = go (ltb (place_of c a) (place_of c b)) refl
      where
        go : (t : Bool) → ltb (place_of c a) (place_of c b) ≡ t → place_of c b ≤ place_of c a
        go true z =
            let k : place_of c a < place_of c b = ltb-true (place_of c a) (place_of c b) z in
            absurd (omega (arith, place-below c b (place_of c a) k, place-le c b, place-not c a (omega (arith, place-le c b))))
        go false z = ltb-false (place_of c a) (place_of c b) z

    low_place : place_of put_in b ≡ place_of c b
    low_place =
        place_is put_in b (place_of c b) (omega (arith, place-le c b))
        (λ k m. rw (address_before k (omega (arith, low))) (place-below c b k m))
        (λ m. go (ltb (place_of c b) (place_of c a)) refl)
      where
        go : (t : Bool) → ltb (place_of c b) (place_of c a) ≡ t → b ≤ get_or put_in.addresses (place_of c b) 0
        go true z =
            let k = ltb-true (place_of c b) (place_of c a) z in
            rw (address_before (place_of c b) k) (place-not c b (omega (arith, place-le c a)))
        go false z =
            let k : place_of c b ≡ place_of c a = omega (arith, low, ltb-false (place_of c b) (place_of c a) z) in
            rw (k, address_here) (omega arith)

    low_stands : stands_at put_in (place_of c b) b ≡ stands c b
    low_stands = go (ltb (place_of c b) (place_of c a)) refl
      where
        go : (t : Bool) → ltb (place_of c b) (place_of c a) ≡ t → stands_at put_in (place_of c b) b ≡ stands c b
        go true z =
            let k = ltb-true (place_of c b) (place_of c a) z in
            stands_move c put_in (place_of c b) (place_of c b) b (λ m. (omega arith, address_before (place_of c b) k)) (λ m. omega (arith, place-le c a))
        go false z =
            let k : place_of c b ≡ place_of c a = omega (arith, low, ltb-false (place_of c b) (place_of c a) z) in
            rw k (stands-not put_in (place_of c a) b (λ m w. let y = address_here in omega arith)
            ∙ sym (stands-not c (place_of c a) b (λ m w. omega (arith, above_new m))))

    low_kept : Kept c put_in b
    low_kept =
        record {
          stood = rw low_place low_stands;
          value = λ w. rw low_place (value_before (place_of c b) (under w));
        }
      where
        under : stands c b ≡ true → place_of c b < place_of c a
        under w = go (eqb (place_of c b) (place_of c a)) refl
          where
            go : (t : Bool) → eqb (place_of c b) (place_of c a) ≡ t → place_of c b < place_of c a
            go true z =
                let k = eqb-true (place_of c b) (place_of c a) z in
                let s = stands-yes c (place_of c b) b w in
                let m : place_of c a < c.count = omega arith in
                let y : get_or c.addresses (place_of c a) 0 ≡ b = rw k at s.1 in
                absurd (omega (arith, above_new m))
            go false z = let k = eqb-false (place_of c b) (place_of c a) z in omega (arith, low)

  -- an address above it: its place moves up
  module _ (b : ℕ) (l : a < b) where
    high : place_of c a ≤ place_of c b
    high = go (ltb (place_of c b) (place_of c a)) refl
      where
        go : (t : Bool) → ltb (place_of c b) (place_of c a) ≡ t → place_of c a ≤ place_of c b
        go true z =
            let k : place_of c b < place_of c a = ltb-true (place_of c b) (place_of c a) z in
            absurd (omega (arith, place-below c a (place_of c b) k, place-le c a, place-not c b (omega (arith, place-le c a))))
        go false z = ltb-false (place_of c b) (place_of c a) z

    high_place : place_of put_in b ≡ suc (place_of c b)
    high_place =
        place_is put_in b (suc (place_of c b)) (omega (arith, place-le c b))
        (λ k m. go (ltb k (place_of c a)) (eqb k (place_of c a)) k m refl refl)
        (λ m. rw (address_up (place_of c b) high (omega arith)) (place-not c b (omega arith)))
      where
        go : (t u : Bool) (k : ℕ) → k < suc (place_of c b) → ltb k (place_of c a) ≡ t → eqb k (place_of c a) ≡ u → get_or put_in.addresses k 0 < b
        go true u k m y z =
            let n = ltb-true k (place_of c a) y in
            rw (address_before k n) (omega (arith, place-below c a k n))
        go false true k m y z = rw (eqb-true k (place_of c a) z, address_here) l
        go false false k m y z =
            let n = ltb-false k (place_of c a) y in
            let d = eqb-false k (place_of c a) z in
            let w : k ≡ suc (k - 1) = omega arith in
            rw (w, address_up (k - 1) (omega arith) (omega (arith, place-le c b))) (place-below c b (k - 1) (omega arith))

    high_kept : Kept c put_in b
    high_kept =
        record {
          stood = rw high_place
              (stands_move c put_in (place_of c b) (suc (place_of c b)) b (λ m. (omega arith, address_up (place_of c b) high m)) (λ m. omega arith));
          value = λ w. rw high_place (value_up (place_of c b) high (stands-yes c (place_of c b) b w).0);
        }

  put-kept : (b : ℕ) → (b ≡ a → ⊥) → Kept c put_in b
  put-kept b ne = go (ltb b a) refl
    where
      go : (t : Bool) → ltb b a ≡ t → Kept c put_in b
      go true z = low_kept b (ltb-true b a z)
      go false z = high_kept b (omega (arith, ltb-false b a z))

  -- each used address is below the next
  inserted_rises : ((i k : ℕ) → i < k → k < c.count → get_or c.addresses i 0 < get_or c.addresses k 0) → (i : ℕ) → i < c.count →
      get_or put_in.addresses i 0 < get_or put_in.addresses (suc i) 0
  inserted_rises r i l = go (ltb i (place_of c a)) (eqb i (place_of c a)) (eqb (suc i) (place_of c a)) refl refl refl
    where
      go : (t u w : Bool) → ltb i (place_of c a) ≡ t → eqb i (place_of c a) ≡ u → eqb (suc i) (place_of c a) ≡ w → get_or put_in.addresses i 0 < get_or put_in.addresses (suc i) 0
      go true u true x y z =
          let m = ltb-true i (place_of c a) x in
          rw (address_before i m, eqb-true (suc i) (place_of c a) z, address_here) (place-below c a i m)
      go true u false x y z =
          let m = ltb-true i (place_of c a) x in
          let n = eqb-false (suc i) (place_of c a) z in
          let k : suc i < place_of c a = omega arith in
          rw (address_before i m, address_before (suc i) k) (r i (suc i) (omega arith) (omega (arith, place-le c a)))
      go false true w x y z =
          let m = eqb-true i (place_of c a) y in
          let n : place_of c a < c.count = omega arith in
          rw (m, address_here, address_up (place_of c a) (omega arith) n) (above_new n)
      go false false w x y z =
          let m = ltb-false i (place_of c a) x in
          let n = eqb-false i (place_of c a) y in
          let k : i ≡ suc (i - 1) = omega arith in
          let f : get_or put_in.addresses i 0 ≡ get_or c.addresses (i - 1) 0 = ap (λ (j : ℕ). get_or put_in.addresses j 0) k ∙ address_up (i - 1) (omega arith) (omega arith) in
          rw (f, address_up i m l) (r (i - 1) i (omega arith) l)

-- a write that has room
module _ (c : Cells) (a v : ℕ) (room : (stored c a v).count ≤ length c.addresses) (pair : length c.addresses ≡ length c.values) where
  fits_new : stands c a ≡ false → c.count < length c.addresses
  fits_new e = omega (arith, count_new c a v e)

  fits-at : stands c a ≡ true → c.count ≤ length c.values
  fits-at e = omega (arith, stored_more c a v)

  pub has_same : has (stored c a v) a ≡ true
  has_same = has_is (stored c a v) a ∙ go (stands c a) refl
    where
      go : (t : Bool) → stands c a ≡ t → stands (stored c a v) a ≡ true
      go true e = rw (stored_at c a v e) (set-stands c a v e (fits-at e) a ∙ e)
      go false e = rw (stored_new c a v e) (put-stands c a v e (fits_new e) pair)

  pub held_same : held (stored c a v) a ≡ v
  held_same = go (stands c a) refl
    where
      go : (t : Bool) → stands c a ≡ t → held (stored c a v) a ≡ v
      go true e = rw (stored_at c a v e) (set-held c a v e (fits-at e))
      go false e = rw (stored_new c a v e) (put-held c a v e (fits_new e) pair)

  module _ (b : ℕ) (ne : b ≡ a → ⊥) where
    stored-kept : Kept c (stored c a v) b
    stored-kept = go (stands c a) refl
      where
        go : (t : Bool) → stands c a ≡ t → Kept c (stored c a v) b
        go true e = rw (stored_at c a v e) (set-kept c a v e (fits-at e) b ne)
        go false e = rw (stored_new c a v e) (put-kept c a v e (fits_new e) pair b ne)

    pub has_other : has (stored c a v) b ≡ has c b
    has_other = has_is (stored c a v) b ∙ stored-kept.stood ∙ sym (has_is c b)

    pub held-other : held (stored c a v) b ≡ held c b
    held-other = kept-held stored-kept

  -- both at once
  pub held-stored : (b : ℕ) → held (stored c a v) b ≡ cond (eqb b a) v (held c b)
  held-stored b = go (eqb b a) refl
    where
      go : (t : Bool) → eqb b a ≡ t → held (stored c a v) b ≡ cond t v (held c b)
      go true e = rw (eqb-true b a e) held_same
      go false e = held-other b (eqb-false b a e)

  pub has-stored : (b : ℕ) → has (stored c a v) b ≡ cond (eqb b a) true (has c b)
  has-stored b = go (eqb b a) refl
    where
      go : (t : Bool) → eqb b a ≡ t → has (stored c a v) b ≡ cond t true (has c b)
      go true e = rw (eqb-true b a e) has_same
      go false e = has_other b (eqb-false b a e)

-- ---- cells that are alike

pub alike_same : (c : Cells) → Alike c c
alike_same c = record { count = refl; addresses = λ i h. refl; values = λ i h. refl; room = refl; pair = refl }

pub alike-place : {c d : Cells} → Alike c d → (a : ℕ) → place_of c a ≡ place_of d a
unfolding place_of
alike-place {c} {d} h a = rw (← h.count) (place-alike c.addresses d.addresses a c.count 0 (λ k l. h.addresses k (omega arith)))

alike-stands : {c d : Cells} → Alike c d → (a : ℕ) → stands c a ≡ stands d a
alike-stands {c} {d} h a =
    rw (← alike-place h a) (sym (stands_move c d (place_of c a) (place_of c a) a (λ m. (omega (arith, h.count), sym (h.addresses (place_of c a) m))) (λ m. omega (arith, h.count))))

pub alike-has : {c d : Cells} → Alike c d → (a : ℕ) → has c a ≡ has d a
alike-has {c} {d} h a = has_is c a ∙ alike-stands h a ∙ sym (has_is d a)

pub alike-held : {c d : Cells} → Alike c d → (a : ℕ) → held c a ≡ held d a
alike-held {c} {d} h a = held_is c a ∙ rw (alike-stands h a, alike-place h a) (go (stands d a) refl) ∙ sym (held_is d a)
  where
    go : (t : Bool) → stands d a ≡ t → cond t (get_or c.values (place_of d a) 0) 0 ≡ cond t (get_or d.values (place_of d a) 0) 0
    go true e = h.values (place_of d a) (omega (arith, (stands-yes d (place_of d a) a e).0, h.count))
    go false e = refl

pub alike-stored : {c d : Cells} → Alike c d → (a v : ℕ) → Alike (stored c a v) (stored d a v)
alike-stored {c} {d} h a v = go (stands c a) refl
  where
    go : (t : Bool) → stands c a ≡ t → Alike (stored c a v) (stored d a v)
    go true e =
        rw (stored_at c a v e, stored_at d a v (sym (alike-stands h a) ∙ e), ← alike-place h a)
        (record {
          count = h.count;
          addresses = h.addresses;
          values = set-alike c.values d.values c.count (place_of c a) v h.pair h.values;
          room = h.room;
          pair = simp length-set h.pair;
        })
    go false e =
        rw (stored_new c a v e, stored_new d a v (sym (alike-stands h a) ∙ e), ← alike-place h a, ← h.count)
        (record {
          count = refl;
          addresses = inserted-alike c.addresses d.addresses c.count (place_of c a) a h.room (place-le c a) h.addresses;
          values = inserted-alike c.values d.values c.count (place_of c a) v h.pair (place-le c a) h.values;
          room = simp inserted-length h.room;
          pair = simp inserted-length h.pair;
        })

-- ---- ascending addresses

-- of so many elements each is below every later one
abbrev pub Rising : List ℕ → ℕ → Type 0
Rising s n = (i k : ℕ) → i < k → k < n → get_or s i 0 < get_or s k 0

pub fall_nil : (x y : ℕ) → fall_of x y ≡ 0 → x < y
unfolding fall_of
fall_nil x y h = go (ltb x y) refl
  where
    go : (t : Bool) → ltb x y ≡ t → x < y
    go true e = ltb-true x y e
    go false e = let z : ◌≡◌ {A = ℕ} 5 0 = rw e at h in absurd (omega arith)

pub fall_not : (x y : ℕ) → x < y → fall_of x y ≡ 0
unfolding fall_of
fall_not x y h = rw (lt-ltb x y h)

pub fall_is : (x y : ℕ) → y ≤ x → fall_of x y ≡ 5
unfolding fall_of
fall_is x y h = rw (le-ltb x y h)

pub falls_nil : (s : List ℕ) (n : ℕ) → falls_of s n ≡ 0 → (i k : ℕ) → i < k → k ≤ n → get_or s i 0 < get_or s k 0
unfolding falls_of
falls_nil s zero e i k h l = absurd (omega arith)
falls_nil s (suc n) e i k h l = go (eqb k (suc n)) (eqb i n) refl refl (falls_nil s n (first-nil _ _ e).0 i)
  where
    last : get_or s n 0 < get_or s (suc n) 0
    last = fall_nil (get_or s n 0) (get_or s (suc n) 0) (first-nil _ _ e).1

    go : (t u : Bool) → eqb k (suc n) ≡ t → eqb i n ≡ u → ((j : ℕ) → i < j → j ≤ n → get_or s i 0 < get_or s j 0) → get_or s i 0 < get_or s k 0
    go true true x y ih = rw (eqb-true k (suc n) x, eqb-true i n y) last
    go true false x y ih =
        let z = eqb-true k (suc n) x in
        let w = eqb-false i n y in
        rw z (omega (arith, last, ih n (omega arith) (omega arith)))
    go false u x y ih = let z = eqb-false k (suc n) x in ih k h (omega arith)

pub falls_fine : (s : List ℕ) (n : ℕ) → ((i : ℕ) → i < n → get_or s i 0 < get_or s (suc i) 0) → falls_of s n ≡ 0
unfolding falls_of
falls_fine s zero h = refl
falls_fine s (suc n) h = first_zero _ _ (falls_fine s n (λ i l. h i (omega arith))) ∙ fall_not (get_or s n 0) (get_or s (suc n) 0) (h n (omega arith))

pub falls_few : (s : List ℕ) (n : ℕ) → falls_of s n ≤ 5
unfolding falls_of fall_of first_of
falls_few s zero = omega arith
falls_few s (suc n) = go (eqb (falls_of s n) 0) (ltb (get_or s n 0) (get_or s (suc n) 0)) (falls_few s n)
  where
    go : (t u : Bool) → falls_of s n ≤ 5 → cond t (cond u 0 5) (falls_of s n) ≤ 5
    go true true h = omega arith
    go true false h = omega arith
    go false u h = h

-- the condition is the fact, both ways
pub ascending_rises : (s : List ℕ) (n : ℕ) → falls_of s (n - 1) ≡ 0 → Rising s n
ascending_rises s n e i k h l = falls_nil s (n - 1) e i k h (omega arith)

pub rises_ascending : (s : List ℕ) (n : ℕ) → Rising s n → falls_of s (n - 1) ≡ 0
rises_ascending s n r = falls_fine s (n - 1) (λ i l. r i (suc i) (omega arith) (omega arith))

-- where an address is absent no used place has it
pub found_nowhere : (c : Cells) (a i : ℕ) → Rising c.addresses c.count → find c a ≡ absent i → (k : ℕ) → k < c.count → get_or c.addresses k 0 ≡ a → ⊥
found_nowhere c a i r h k l e = go (ltb k i) (eqb k i) refl refl
  where
    go : (t u : Bool) → ltb k i ≡ t → eqb k i ≡ u → ⊥
    go true u x y = omega (arith, (found-absent c a i h).1 k (ltb-true k i x))
    go false true x y =
        let z : k ≡ i = eqb-true k i y in
        let w : get_or c.addresses i 0 ≡ a = rw z at e in
        omega (arith, (found-absent c a i h).2 (omega arith))
    go false false x y =
        let z = eqb-false k i y in
        let m : i < k = omega (arith, ltb-false k i x) in
        omega (arith, (found-absent c a i h).2 (omega arith), r i k m l)

-- a write that has room keeps addresses ascending
pub stored-ascending : (c : Cells) (a v : ℕ) → (stored c a v).count ≤ length c.addresses → length c.addresses ≡ length c.values → falls_of c.addresses (c.count - 1) ≡ 0 →
    falls_of (stored c a v).addresses ((stored c a v).count - 1) ≡ 0
stored-ascending c a v room pair h = go (stands c a) refl
  where
    go : (t : Bool) → stands c a ≡ t → falls_of (stored c a v).addresses ((stored c a v).count - 1) ≡ 0
    go true e = rw (stored_at c a v e) h
    go false e =
        rw (stored_new c a v e)
        (falls_fine (inserted c.addresses c.count (place_of c a) a) (c.count + 1 - 1)
        (λ i l. inserted_rises c a v e (fits_new c a v room pair e) pair (ascending_rises c.addresses c.count h) i (omega arith)))

-- ---- place A finds the same wrong with cells that are alike

falls_alike : (s t : List ℕ) (n : ℕ) → ((k : ℕ) → k ≤ n → get_or s k 0 ≡ get_or t k 0) → falls_of s n ≡ falls_of t n
unfolding falls_of
falls_alike s t zero h = refl
falls_alike s t (suc n) h = rw (falls_alike s t n (λ k l. h k (omega arith)), h n (omega arith), h (suc n) (omega arith))

pub cells1-alike : {c d : Cells} → Alike c d → cells1 c ≡ cells1 d
unfolding cells1
cells1-alike h = rw (h.room, h.pair)

pub cells2-alike : {c d : Cells} → Alike c d → cells2 c ≡ cells2 d
unfolding cells2
cells2-alike {c} {d} h =
    rw (
      ← h.count,
      ← h.room,
      ← h.pair,
      words-alike c.addresses d.addresses (min c.count (length c.addresses)) (λ k l. h.addresses k (omega arith)),
      words-alike c.values d.values (min c.count (length c.values)) (λ k l. h.values k (omega arith)),
    )

-- used addresses that are the same fall the same; no cell has no pair
ascending-alike : (s t : List ℕ) (n : ℕ) → ((k : ℕ) → k < n → get_or s k 0 ≡ get_or t k 0) → falls_of s (n - 1) ≡ falls_of t (n - 1)
unfolding falls_of
ascending-alike s t zero h = refl
ascending-alike s t (suc n) h = falls_alike s t (suc n - 1) (λ k l. h k (omega arith))

pub cells5-alike : {c d : Cells} → Alike c d → cells5 c ≡ cells5 d
unfolding cells5
cells5-alike {c} {d} h = rw (← h.count, ← h.room, ascending-alike c.addresses d.addresses c.count h.addresses)
