-- How many cells the records of a group take is how many cells of the group's table have an address that the opening lacks.
-- Assumes nothing.
use mathlib.Core.Path.{◌≡◌, refl, sym, ◌∙◌}
use mathlib.Core.Bool.{Bool, true, false, not}
use mathlib.Core.List.{List, [], ◌∷◌, ◌++◌, append_assoc, append-nil}
use Prim.Native.Nat.{ℕ, zero, suc, ◌+◌, ◌≤◌, ◌<◌}
use native.Mathlib.Omega.{arith}
use borrow.Author.Tests.{eqb-true, eqb-false, eq-eqb, ne_eqb}
use lib.ListN.{length, get_or}
use lib.Dec.{eqb}
use Rattle.choices.specs.Choice.{cond}
use Rattle.machine.specs.Ram.{Cells, cells, has, stored}
use Rattle.machine.specs.Records.{Record, other, timed, stack, ram}
use Rattle.machine.proofs.RamLaws.{has-stored, ascending_rises}
use Rattle.machine_ram.proofs.Order.{has_there, next-absent, next_cell}
use Rattle.replay.specs.LastWrite.{wrote_of, had_of}
use Rattle.replay_table.specs.Merge.{Sorted, lacked}
use Rattle.replay_table.specs.Group.{inside, new_in, cells_in, no_cells, distinct_in}
use Rattle.replay_table.proofs.CellsLaws.{has-none}
use Rattle.replay_table.proofs.GroupLaws.{apart, inside_true, cells-append, cells-both, cells-few}

-- ---- records in two parts

pub wrote-append : (xs ys : List Record) (a x : ℕ) → wrote_of (xs ++ ys) a x ≡ wrote_of ys a (wrote_of xs a x)
unfolding wrote_of
wrote-append [] ys a x = refl
wrote-append (other k s ∷ xs) ys a x = wrote-append xs ys a x
wrote-append (timed k t s ∷ xs) ys a x = wrote-append xs ys a x
wrote-append (stack t q d v ∷ xs) ys a x = wrote-append xs ys a x
wrote-append (ram t b v zero ∷ xs) ys a x = wrote-append xs ys a x
wrote-append (ram t b v (suc d) ∷ xs) ys a x = wrote-append xs ys a (cond (eqb a b) v x)

pub had_append : (xs ys : List Record) (a : ℕ) (x : Bool) → had_of (xs ++ ys) a x ≡ had_of ys a (had_of xs a x)
unfolding had_of
had_append [] ys a x = refl
had_append (other k s ∷ xs) ys a x = had_append xs ys a x
had_append (timed k t s ∷ xs) ys a x = had_append xs ys a x
had_append (stack t q d v ∷ xs) ys a x = had_append xs ys a x
had_append (ram t b v zero ∷ xs) ys a x = had_append xs ys a x
had_append (ram t b v (suc d) ∷ xs) ys a x = had_append xs ys a (cond (eqb a b) true x)

-- what was there stays there
had_true : (xs : List Record) (a : ℕ) → had_of xs a true ≡ true
unfolding had_of
had_true [] a = refl
had_true (other k s ∷ xs) a = had_true xs a
had_true (timed k t s ∷ xs) a = had_true xs a
had_true (stack t q d v ∷ xs) a = had_true xs a
had_true (ram t b v zero ∷ xs) a = had_true xs a
had_true (ram t b v (suc d) ∷ xs) a = go (eqb a b) (had_true xs a)
  where
    go : (t : Bool) → had_of xs a true ≡ true → had_of xs a (cond t true true) ≡ true
    go true h = h
    go false h = h

-- written to by the records, or there before
pub had_or : (xs : List Record) (a : ℕ) (x : Bool) → had_of xs a x ≡ cond (had_of xs a false) true x
had_or xs a true = had_true xs a ∙ go (had_of xs a false)
  where
    go : (t : Bool) → true ≡ cond t true true
    go true = refl
    go false = refl
had_or xs a false = go (had_of xs a false)
  where
    go : (t : Bool) → t ≡ cond t true false
    go true = refl
    go false = refl

-- ---- the numbers below h that pass a test

unfoldable pub count_to : ℕ → (ℕ → Bool) → ℕ
count_to zero f = 0
count_to (suc h) f = count_to h f + cond (f h) 1 0

pub count-alike : (h : ℕ) (f g : ℕ → Bool) → ((a : ℕ) → a < h → f a ≡ g a) → count_to h f ≡ count_to h g
unfolding count_to
count-alike zero f g e = refl
count-alike (suc h) f g e = rw (e h (omega arith), count-alike h f g (λ a l. e a (omega arith)))

count_none : (h : ℕ) → count_to h (λ a. false) ≡ 0
unfolding count_to
count_none zero = refl
count_none (suc h) = omega (arith, count_none h)

-- two tests that agree but at b
module _ (b : ℕ) (f g : ℕ → Bool) (e : (a : ℕ) → (a ≡ b → ⊥) → f a ≡ g a) where
  pub count_same : (h : ℕ) → f b ≡ g b → count_to h f ≡ count_to h g
  count_same h x = count-alike h f g (λ a l. go a (eqb a b) refl)
    where
      go : (a : ℕ) (t : Bool) → eqb a b ≡ t → f a ≡ g a
      go a true q = rw (eqb-true a b q) x
      go a false q = e a (eqb-false a b q)

  pub count_one : (h : ℕ) → b < h → f b ≡ false → g b ≡ true → count_to h g ≡ count_to h f + 1
  unfolding count_to
  count_one zero l x y = absurd (omega arith)
  count_one (suc h) l x y = go (eqb h b) refl (λ k. count_one h k x y)
    where
      go : (t : Bool) → eqb h b ≡ t → (b < h → count_to h g ≡ count_to h f + 1) → count_to h g + cond (g h) 1 0 ≡ count_to h f + cond (f h) 1 0 + 1
      go true q ih =
          let z = eqb-true h b q in
          let u = count-alike b f g (λ a m. e a (λ w. omega arith)) in
          rw (z, x, y) (omega arith)
      go false q ih =
          let n = eqb-false h b q in
          let u = ih (omega arith) in
          rw (e h n) (omega arith)

-- ---- what records take

-- the addresses of the group that the records done write to and c lacks
abbrev taken : ℕ → ℕ → Cells → List Record → ℕ → Bool
taken lo hi c done a = cond (inside lo hi a) (cond (had_of done a false) (not (has c a)) false) false

module _ (lo hi : ℕ) (c : Cells) where
  -- a record that writes to no address
  taken-kept : (done : List Record) (r : Record) → ((a : ℕ) (x : Bool) → had_of (r ∷ []) a x ≡ x) →
      count_to hi (taken lo hi c (done ++ (r ∷ []))) ≡ count_to hi (taken lo hi c done) + 0
  taken-kept done r k = omega (arith, count-alike hi (taken lo hi c (done ++ (r ∷ []))) (taken lo hi c done) (λ a l. rw (had_append done (r ∷ []) a false, k a (had_of done a false))))

  -- one that writes to b
  module _ (done : List Record) (r : Record) (b : ℕ) (k : (a : ℕ) (x : Bool) → had_of (r ∷ []) a x ≡ cond (eqb a b) true x) where
    had_snoc : (a : ℕ) → had_of (done ++ (r ∷ [])) a false ≡ cond (eqb a b) true (had_of done a false)
    had_snoc a = had_append done (r ∷ []) a false ∙ k a (had_of done a false)

    had_here : had_of (done ++ (r ∷ [])) b false ≡ true
    had_here = had_snoc b ∙ rw (eq-eqb b b refl)

    elsewhere : (a : ℕ) → (a ≡ b → ⊥) → taken lo hi c done a ≡ taken lo hi c (done ++ (r ∷ [])) a
    elsewhere a n = rw (had_snoc a, ne_eqb a b n)

    taken-write : count_to hi (taken lo hi c (done ++ (r ∷ []))) ≡ count_to hi (taken lo hi c done) + cond (inside lo hi b) (cond (had_of done b (has c b)) 0 1) 0
    taken-write = rw (had_or done b (has c b)) (go (inside lo hi b) (had_of done b false) (has c b) refl refl refl)
      where
        same : taken lo hi c done b ≡ taken lo hi c (done ++ (r ∷ [])) b → count_to hi (taken lo hi c (done ++ (r ∷ []))) ≡ count_to hi (taken lo hi c done) + 0
        same e = omega (arith, count_same b (taken lo hi c done) (taken lo hi c (done ++ (r ∷ []))) elsewhere hi e)

        go : (t u w : Bool) → inside lo hi b ≡ t → had_of done b false ≡ u → has c b ≡ w →
            count_to hi (taken lo hi c (done ++ (r ∷ []))) ≡ count_to hi (taken lo hi c done) + cond t (cond (cond u true w) 0 1) 0
        go true true w x y z = same (rw (had_here, x, y))
        go true false true x y z = same (rw (had_here, x, y, z))
        go true false false x y z =
            count_one b (taken lo hi c done) (taken lo hi c (done ++ (r ∷ []))) elsewhere hi (inside_true lo hi b x).1 (rw (x, y)) (rw (had_here, x, z))
        go false u w x y z = same (rw x)

  taken_one : (done : List Record) (r : Record) → count_to hi (taken lo hi c (done ++ (r ∷ []))) ≡ count_to hi (taken lo hi c done) + new_in lo hi c done r
  unfolding had_of new_in
  taken_one done (other k s) = taken-kept done (other k s) (λ a x. refl)
  taken_one done (timed k t s) = taken-kept done (timed k t s) (λ a x. refl)
  taken_one done (stack t q d v) = taken-kept done (stack t q d v) (λ a x. refl)
  taken_one done (ram t b v zero) = taken-kept done (ram t b v zero) (λ a x. refl)
  taken_one done (ram t b v (suc d)) = taken-write done (ram t b v (suc d)) b (λ a x. refl)

  taken_more : (done rs : List Record) → count_to hi (taken lo hi c (done ++ rs)) ≡ count_to hi (taken lo hi c done) + cells_in lo hi c done rs
  unfolding cells_in
  taken_more done [] = rw append-nil (omega arith)
  taken_more done (r ∷ rs) = rw (← append_assoc done (r ∷ []) rs) (omega (arith, taken_more (done ++ (r ∷ [])) rs, taken_one done r))

  cells_count : (rs : List Record) → cells_in lo hi c [] rs ≡ count_to hi (taken lo hi c rs)
  unfolding had_of
  cells_count rs = omega (arith, taken_more [] rs, count-alike hi (taken lo hi c []) (λ a. false) (λ a l. nothing (inside lo hi a)), count_none hi)
    where
      nothing : (t : Bool) → cond t false false ≡ false
      nothing true = refl
      nothing false = refl

-- ---- what a table has and c lacks

-- the addresses that t has and c lacks
abbrev lacking : Cells → Cells → ℕ → Bool
lacking c t a = cond (has t a) (not (has c a)) false

-- the first k cells
abbrev first : Cells → ℕ → Cells
first t k = cells k t.addresses t.values

module _ (t : Cells) (z : Sorted t) where
  -- the next one
  module _ (k : ℕ) (l : k < t.count) where
    next-has : (a : ℕ) → has (first t (suc k)) a ≡ cond (eqb a (get_or t.addresses k 0)) true (has (first t k) a)
    next-has a =
        let e = next_cell t.addresses t.values t.count k z.usable.ordered.ascending l in
        let n : suc k ≡ k + 1 = omega arith in
        let m : (stored (first t k) (get_or t.addresses k 0) (get_or t.values k 0)).count ≤ length t.addresses = rw e (omega arith) in
        rw (n, ← e) (has-stored (first t k) (get_or t.addresses k 0) (get_or t.values k 0) m z.pair a)

    next-not : has (first t k) (get_or t.addresses k 0) ≡ false
    unfolding has
    next-not = rw (next-absent t.addresses t.values t.count k z.usable.ordered.ascending l)

    next-is : has (first t (suc k)) (get_or t.addresses k 0) ≡ true
    next-is = next-has (get_or t.addresses k 0) ∙ rw (eq-eqb (get_or t.addresses k 0) (get_or t.addresses k 0) refl)

    next-other : (c : Cells) (a : ℕ) → (a ≡ get_or t.addresses k 0 → ⊥) → lacking c (first t k) a ≡ lacking c (first t (suc k)) a
    next-other c a n = rw (next-has a, ne_eqb a (get_or t.addresses k 0) n)

  -- addresses below hi
  lacked-count : (hi : ℕ) (c : Cells) → ((k : ℕ) → k < t.count → get_or t.addresses k 0 < hi) → (k : ℕ) → k ≤ t.count → lacked c t k ≡ count_to hi (lacking c (first t k))
  unfolding lacked
  lacked-count hi c b zero l = sym (count-alike hi (lacking c (first t 0)) (λ a. false) (λ a m. rw (has-none t.addresses t.values a)) ∙ count_none hi)
  lacked-count hi c b (suc k) l = rw (lacked-count hi c b k (omega arith)) (go (has c (get_or t.addresses k 0)) refl)
    where
      go : (x : Bool) → has c (get_or t.addresses k 0) ≡ x → count_to hi (lacking c (first t k)) + cond x 0 1 ≡ count_to hi (lacking c (first t (suc k)))
      go true e =
          omega (arith, count_same (get_or t.addresses k 0) (lacking c (first t k)) (lacking c (first t (suc k))) (next-other k l c) hi (rw (next-not k l, next-is k l, e)))
      go false e =
          sym (count_one (get_or t.addresses k 0) (lacking c (first t k)) (lacking c (first t (suc k))) (next-other k l c) hi (b k l) (rw (next-not k l)) (rw (next-is k l, e)))

-- ---- both

pub cells-lacked : (lo hi : ℕ) (c t : Cells) (done : List Record) → Sorted t → ((a : ℕ) → has t a ≡ true → inside lo hi a ≡ true) → ((a : ℕ) → inside lo hi a ≡ true → has t a ≡ had_of done a false) →
    lacked c t t.count ≡ cells_in lo hi c [] done
cells-lacked lo hi c t done z only same =
    lacked-count t z hi c below t.count (omega arith)
    ∙ count-alike hi (lacking c t) (taken lo hi c done) (λ a l. go a (has t a) (inside lo hi a) refl refl)
    ∙ sym (cells_count lo hi c done)
  where
    below : (k : ℕ) → k < t.count → get_or t.addresses k 0 < hi
    below k l =
        let r = ascending_rises t.addresses t.count z.usable.ordered.ascending in
        (inside_true lo hi (get_or t.addresses k 0) (only (get_or t.addresses k 0) (has_there t k r l))).1

    go : (a : ℕ) (x y : Bool) → has t a ≡ x → inside lo hi a ≡ y → cond x (not (has c a)) false ≡ cond y (cond (had_of done a false) (not (has c a)) false) false
    go a x true e f = rw (← same a f, e)
    go a true false e f = absurd (apart (sym (only a e) ∙ f))
    go a false false e f = refl

-- no_cells lacks every address
lacked-none : (t : Cells) (k : ℕ) → lacked no_cells t k ≡ k
unfolding lacked
lacked-none t zero = refl
lacked-none t (suc k) = rw (has-none [] [] (get_or t.addresses k 0)) (omega (arith, lacked-none t k))

pub cells_distinct : (lo hi : ℕ) (t : Cells) (done : List Record) → Sorted t → ((a : ℕ) → has t a ≡ true → inside lo hi a ≡ true) → ((a : ℕ) → inside lo hi a ≡ true → has t a ≡ had_of done a false) →
    t.count ≡ distinct_in lo hi done
unfolding distinct_in
cells_distinct lo hi t done z only same = sym (lacked-none t t.count) ∙ cells-lacked lo hi no_cells t done z only same

-- ---- how many addresses records write to

pub distinct_few : (lo hi : ℕ) (rs : List Record) → distinct_in lo hi rs ≤ length rs
unfolding distinct_in
distinct_few lo hi rs = cells-few lo hi no_cells [] rs

pub distinct_part : (lo hi : ℕ) (done rest : List Record) → distinct_in lo hi done ≤ distinct_in lo hi (done ++ rest)
unfolding distinct_in
distinct_part lo hi done rest = omega (arith, cells-append lo hi no_cells [] done rest)

pub distinct_both : (lo mid hi : ℕ) → lo ≤ mid → mid ≤ hi → (rs : List Record) → distinct_in lo mid rs + distinct_in mid hi rs ≡ distinct_in lo hi rs
unfolding distinct_in
distinct_both lo mid hi l h rs = cells-both lo mid hi l h no_cells [] rs
