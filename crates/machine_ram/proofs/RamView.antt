-- What the turns of RAM's loops show. Assumes nothing.
use Rattle.std.proofs.Common.{◌≡◌, ℕ, zero, suc, ◌+◌, ◌-◌, ◌/◌, ◌<◌, ◌≤◌, Bool, true, false, eqb, ltb, List, length, get_or, set, take, drop, sym, refl, ap, ◌∙◌, true≢false, append_assoc, arith, ltb-false, ltb-true, eqb-true, ◌⊎◌, inl, inr, Ok, Err, drop-cons}
use Rattle.std.specs.List.{IsAllAdjacentAnswer, copy_within}
use Rattle.std.proofs.lemmas.List.{get_or-take, length-take-le, set_at}
use Rattle.std.proofs.Math.Seq.{paste, paste-zero, take-suc}
use borrow.Author.Tests.{eqb-false}
use Rattle.choices.specs.Choice.{cond, first_of}
use Rattle.machine_ram.specs.RamView.{Ordered, Spotted, Looked, Above, Below, Guessed, Room, Stored}
use Rattle.machine.proofs.Moves.{moved_before}
use Rattle.machine.specs.Ram.{Cells, cells, at, absent, place_from, place_of, find, held, moved_up, inserted, stored, fall_of, falls_of}
use Rattle.machine.proofs.RamLaws.{place_within, place_before, place_here, ascending_rises, stands-is, stands-not, find_at, find_absent, stored_addresses, falls_fine, falls_nil, stored-ascending}

-- ---- the search: the place is behind a lesser address, and not behind another

pub place_in : (s : List ℕ) (n a : ℕ) → place_from s a n 0 ≤ n
place_in s n a = omega (arith, place_within s a n 0)

pub place_past : (s : List ℕ) (n a m : ℕ) → Ordered s n → m < n → get_or s m 0 < a → m < place_from s a n 0
place_past s n a m o h l = go (ltb m (place_from s a n 0)) refl
  where
    go : (t : Bool) → ltb m (place_from s a n 0) ≡ t → m < place_from s a n 0
    go true e = ltb-true m (place_from s a n 0) e
    go false e =
        let k : place_from s a n 0 ≤ m = ltb-false m (place_from s a n 0) e in
        let b : a ≤ get_or s (place_from s a n 0) 0 = place_here s a n 0 (omega arith) in
        same (eqb m (place_from s a n 0)) refl k b
      where
        same : (t : Bool) → eqb m (place_from s a n 0) ≡ t → place_from s a n 0 ≤ m → a ≤ get_or s (place_from s a n 0) 0 → m < place_from s a n 0
        same true e k b =
            let z : a ≤ get_or s m 0 = rw (eqb-true m (place_from s a n 0) e) b in
            absurd (omega arith)
        same false e k b =
            let z = eqb-false m (place_from s a n 0) e in
            absurd (omega (arith, ascending_rises s n o.ascending (place_from s a n 0) m (omega arith) h))

pub place_upto : (s : List ℕ) (n a m : ℕ) → a ≤ get_or s m 0 → place_from s a n 0 ≤ m
place_upto s n a m l = go (ltb m (place_from s a n 0)) refl
  where
    go : (t : Bool) → ltb m (place_from s a n 0) ≡ t → place_from s a n 0 ≤ m
    go true e = absurd (omega (arith, place_before s a n 0 m (omega arith) (ltb-true m (place_from s a n 0) e)))
    go false e = ltb-false m (place_from s a n 0) e

-- The place is one of from to from + left. Of the words that were not below, the last is the one at `seen`; before there is one, seen is n.
pub record Narrowed (s : List ℕ) (n a from left last : ℕ) : Type 0 where
  pub low : from ≤ place_from s a n 0
  pub within : from + left ≤ n
  pub seen : ℕ
  pub place : place_from s a n 0 ≤ seen
  pub high : seen ≤ from + left
  pub word : seen < n → last ≡ get_or s seen 0

pub narrowed-all : (s : List ℕ) (n a : ℕ) → Narrowed s n a 0 n 0
narrowed-all s n a = record { low = omega arith; within = omega arith; seen = n; place = place_in s n a; high = omega arith; word = λ h. absurd (omega arith) }

pub turn_half : (s : List ℕ) (n a from left last : ℕ) → Ordered s n → 1 < left → Narrowed s n a from left last →
    Narrowed s n a (cond (ltb (get_or s (from + left / 2) 0) a) (from + left / 2) from) (left - left / 2) (cond (ltb (get_or s (from + left / 2) 0) a) last (get_or s (from + left / 2) 0))
turn_half s n a from left last o h r = go (ltb (get_or s (from + left / 2) 0) a) refl
  where
    go : (t : Bool) → ltb (get_or s (from + left / 2) 0) a ≡ t → Narrowed s n a (cond t (from + left / 2) from) (left - left / 2) (cond t last (get_or s (from + left / 2) 0))
    go true e =
        let m = place_past s n a (from + left / 2) o (omega (arith, r.within)) (ltb-true (get_or s (from + left / 2) 0) a e) in
        record { low = omega (arith, m); within = omega (arith, r.within); seen = r.seen; place = r.place; high = omega (arith, r.high); word = r.word }
    go false e =
        let m = place_upto s n a (from + left / 2) (ltb-false (get_or s (from + left / 2) 0) a e) in
        record { low = r.low; within = omega (arith, r.within); seen = from + left / 2; place = m; high = omega arith; word = λ _. refl }

pub turn_none : (s : List ℕ) (n a from left last : ℕ) → left ≡ 0 → Narrowed s n a from left last → Spotted s n a from last
turn_none s n a from left last e r =
    let k : r.seen ≡ from = omega (arith, r.low, r.place, r.high) in
    record { is = omega (arith, r.low, r.place, r.high); within = omega (arith, r.within); word = λ l. rw k at (r.word (omega arith)) }

pub turn_last : (s : List ℕ) (n a from left last : ℕ) → Ordered s n → left ≤ 1 → (left ≡ 0 → ⊥) → Narrowed s n a from left last →
    Spotted s n a (cond (ltb (get_or s from 0) a) (from + 1) from) (cond (ltb (get_or s from 0) a) last (get_or s from 0))
turn_last s n a from left last o h d r = go (ltb (get_or s from 0) a) refl
  where
    go : (t : Bool) → ltb (get_or s from 0) a ≡ t → Spotted s n a (cond t (from + 1) from) (cond t last (get_or s from 0))
    go true e =
        let m = place_past s n a from o (omega (arith, r.within)) (ltb-true (get_or s from 0) a e) in
        let k : r.seen ≡ from + 1 = omega (arith, m, r.place, r.high) in
        record { is = omega (arith, m, r.place, r.high); within = omega (arith, r.within); word = λ l. rw k at (r.word (omega arith)) }
    go false e =
        let m = place_upto s n a from (ltb-false (get_or s from 0) a e) in
        record { is = omega (arith, m, r.low); within = omega (arith, r.within); word = λ _. refl }

-- ---- what is found there

pub found_here : (s v : List ℕ) (n a i : ℕ) → i ≡ place_from s a n 0 → i < n → get_or s i 0 ≡ a → at i ≡ find (cells n s v) a
unfolding place_of
found_here s v n a i q h e = sym (find_at (cells n s v) a (rw (← q) (stands-is (cells n s v) i a h e)) ∙ rw (← q))

pub found-not : (s v : List ℕ) (n a i : ℕ) → i ≡ place_from s a n 0 → (i < n → get_or s i 0 ≡ a → ⊥) → absent i ≡ find (cells n s v) a
unfolding place_of
found-not s v n a i q h = sym (find_absent (cells n s v) a (rw (← q) (stands-not (cells n s v) i a h)) ∙ rw (← q))

-- by halves
pub spotted-found : {s : List ℕ} {n a i x : ℕ} → Spotted s n a i x → i < n → x ≡ a → Looked s n a (Ok i)
spotted-found {s} {n} {a} {i} q h e = record { is = λ v. found_here s v n a i q.is h (sym (q.word h) ∙ e); place = h }

pub spotted-absent : {s : List ℕ} {n a i x : ℕ} → Spotted s n a i x → (i < n → x ≡ a → ⊥) → Looked s n a (Err i)
spotted-absent {s} {n} {a} {i} q h = record { is = λ v. found-not s v n a i q.is (λ l e. h l (q.word l ∙ e)); place = q.within }

pub read_at_lem : (c : Cells) (a i : ℕ) → at i ≡ find c a → get_or c.values i 0 ≡ held c a
unfolding held
read_at_lem c a i e = rw (← e)

pub read-absent : (c : Cells) (a i : ℕ) → absent i ≡ find c a → 0 ≡ held c a
unfolding held
read-absent c a i e = rw (← e)

pub write-at : (c : Cells) (a v i : ℕ) → at i ≡ find c a → cells c.count c.addresses (set c.values i v) ≡ stored c a v
unfolding stored
write-at c a v i e = rw (← e)

pub write-absent : (c : Cells) (a v i : ℕ) → absent i ≡ find c a → cells (c.count + 1) (inserted c.addresses c.count i a) (inserted c.values c.count i v) ≡ stored c a v
unfolding stored
write-absent c a v i e = rw (← e)

-- a write that has room leaves cells in order
pub stored-ordered : {c d : Cells} {a v : ℕ} → Room c a v → Stored c a v d → Ordered d.addresses d.count
stored-ordered {c} {a = a} {v = v} r s =
    rw s.is (record { within = rw (stored_addresses c a v) r.fits; ascending = stored-ascending c a v r.fits r.pair r.ordered.ascending })

-- an absent address takes a cell
pub absent_more : (c : Cells) (a v i : ℕ) → absent i ≡ find c a → (stored c a v).count ≡ c.count + 1
unfolding stored
absent_more c a v i e = rw (← e)

-- ---- a guess

pub guess_wrong : (s : List ℕ) (n a i : ℕ) → Guessed s n a i false
guess_wrong s n a i = record { is = λ e. absurd (true≢false (sym e)); within = λ e. absurd (true≢false (sym e)) }

pub guess_by : (s : List ℕ) (n a i : ℕ) (r : Bool) → Ordered s n → i ≤ n → Above s i a true → Below s n i a r → Guessed s n a i r
guess_by s n a i r o h l m = record { is = λ e. omega (arith, low (ltb 0 i) refl, high e (ltb i n) refl); within = λ _. h }
  where
    low : (t : Bool) → ltb 0 i ≡ t → i ≤ place_from s a n 0
    low true e =
        let k = ltb-true 0 i e in
        omega (arith, place_past s n a (i - 1) o (omega arith) (l.is refl k))
    low false e = omega (arith, ltb-false 0 i e)

    high : r ≡ true → (t : Bool) → ltb i n ≡ t → place_from s a n 0 ≤ i
    high q true e = place_upto s n a i (m.is q (ltb-true i n e))
    high q false e = omega (arith, ltb-false i n e, place_in s n a)

-- a guess that is right

pub guess-found : {s : List ℕ} {n a i : ℕ} → Guessed s n a i true → i < n → get_or s i 0 ≡ a → Looked s n a (Ok i)
guess-found {s} {n} {a} {i} q h e = record { is = λ v. found_here s v n a i (q.is refl) h e; place = h }

pub guess-absent : {s : List ℕ} {n a i : ℕ} → Guessed s n a i true → (i < n → get_or s i 0 ≡ a → ⊥) → Looked s n a (Err i)
guess-absent {s} {n} {a} {i} q h = record { is = λ v. found-not s v n a i (q.is refl) h; place = q.within refl }

-- ---- moving up by one, the last first

pub moved_none : (s : List ℕ) (n : ℕ) → s ≡ moved_up s n (n - n)
unfolding moved_up
moved_none s n = let e : n - n ≡ 0 = omega arith in rw e

pub moved_one : (s t : List ℕ) (n k : ℕ) → 0 < k → k ≤ n → t ≡ moved_up s k (n - k) → set t k (get_or t (k - 1) 0) ≡ moved_up s (k - 1) (n - (k - 1))
unfolding moved_up
moved_one s t n k l h e =
    let m : n - (k - 1) ≡ suc (n - k) = omega arith in
    let w : suc (k - 1) ≡ k = omega arith in
    rw (e, m, w, moved_before s k (n - k) (k - 1) (omega arith))

pub moved_all : (s t : List ℕ) (n k : ℕ) → k ≤ 0 → t ≡ moved_up s k (n - k) → t ≡ moved_up s 0 n
moved_all s t n k h e =
    let z : k ≡ 0 = omega arith in
    let w : n - 0 ≡ n = omega arith in
    rw w at (rw z at e)

-- ---- neighbours

falls_either : (s : List ℕ) (n : ℕ) → (falls_of s n ≡ 0) ⊎ (falls_of s n ≡ 5)
unfolding falls_of fall_of first_of
falls_either s zero = inl refl
falls_either s (suc n) = go (eqb (falls_of s n) 0) (ltb (get_or s n 0) (get_or s (suc n) 0)) (falls_either s n)
  where
    go : (t u : Bool) → (falls_of s n ≡ 0) ⊎ (falls_of s n ≡ 5) → (cond t (cond u 0 5) (falls_of s n) ≡ 0) ⊎ (cond t (cond u 0 5) (falls_of s n) ≡ 5)
    go true true h = inl refl
    go true false h = inr refl
    go false u h = h

module _ (s xs : List ℕ) (n : ℕ) (h : n ≤ length s) (e : xs ≡ take n s) where
  many : length xs ≡ n
  many = ap length e ∙ length-take-le n s h

  used : (k : ℕ) → k < n → get_or xs k 0 ≡ get_or s k 0
  used k l = ap (λ (r : List ℕ). get_or r k 0) e ∙ get_or-take n s k 0 l

  falls-some : (k : ℕ) → k + 1 < length xs → false ≡ ltb (get_or xs k 0) (get_or xs (k + 1) 0) → (falls_of s (n - 1) ≡ 0) ⊎ (falls_of s (n - 1) ≡ 5) → 5 ≡ falls_of s (n - 1)
  falls-some k l m (inl z) =
      let x = falls_nil s (n - 1) z k (k + 1) (omega arith) (omega (arith, many)) in
      let y = ltb-false (get_or xs k 0) (get_or xs (k + 1) 0) (sym m) in
      absurd (omega (arith, used k (omega (arith, many)), used (k + 1) (omega (arith, many))))
  falls-some k l m (inr z) = sym z

  pub falls_by : (r : Bool) → IsAllAdjacentAnswer (λ x y b. b ≡ ltb x y) xs r → cond r 0 5 ≡ falls_of s (n - 1)
  falls_by true m =
      sym (falls_fine s (n - 1) (λ i l.
      let z : i + 1 ≡ suc i = omega arith in
      let y = ltb-true (get_or xs i 0) (get_or xs (i + 1) 0) (sym (m i 0 (omega (arith, many)))) in
      omega (arith, used i (omega arith), rw z at (used (i + 1) (omega arith)), rw z at y)))
  falls_by false m = falls-some m.0 m.1 (m.2 0) (falls_either s (n - 1))
