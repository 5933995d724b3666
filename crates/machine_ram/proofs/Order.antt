-- What ascending addresses give: each used address is found, a greater one goes to the end, and cells that hold the same are
-- the same cells. Assumes nothing.
use Rattle.std.proofs.Common.{◌≡◌, ℕ, zero, suc, ◌+◌, ◌-◌, ◌<◌, ◌≤◌, Bool, true, false, eqb, ltb, List, length, get_or, set, sym, refl, ap, ◌∙◌, arith, ltb-false, ltb-true, eqb-true}
use borrow.Author.Tests.{eqb-false}
use lib.Seq.{set-get_or}
use Rattle.machine.specs.Ram.{Cells, cells, at, absent, place_of, find, has, held, moved_up, inserted, stored, Alike, falls_of}
use Rattle.machine.proofs.RamLaws.{Rising, place_is, stands-is, stands-not, stands-yes, find_at, find_absent, has_is, ascending_rises}
use Rattle.machine_ram.proofs.RamView.{write-absent, read_at_lem}

-- ---- a used address is found where it stands

place_there : (c : Cells) (k : ℕ) → Rising c.addresses c.count → k < c.count → place_of c (get_or c.addresses k 0) ≡ k
place_there c k r h = place_is c (get_or c.addresses k 0) k (omega arith) (λ j l. r j k l h) (λ _. omega arith)

pub found_there : (c : Cells) (k : ℕ) → Rising c.addresses c.count → k < c.count → find c (get_or c.addresses k 0) ≡ at k
found_there c k r h =
    let e = place_there c k r h in
    find_at c (get_or c.addresses k 0) (rw e (stands-is c k (get_or c.addresses k 0) h refl)) ∙ ap at e

pub has_there : (c : Cells) (k : ℕ) → Rising c.addresses c.count → k < c.count → has c (get_or c.addresses k 0) ≡ true
has_there c k r h = has_is c (get_or c.addresses k 0) ∙ rw (place_there c k r h) (stands-is c k (get_or c.addresses k 0) h refl)

pub held_there : (c : Cells) (k : ℕ) → Rising c.addresses c.count → k < c.count → held c (get_or c.addresses k 0) ≡ get_or c.values k 0
held_there c k r h = sym (read_at_lem c (get_or c.addresses k 0) k (sym (found_there c k r h)))

-- and an address that has a cell stands at its place
pub has_where : (c : Cells) (a : ℕ) → has c a ≡ true → (place_of c a < c.count) × (get_or c.addresses (place_of c a) 0 ≡ a)
has_where c a h = stands-yes c (place_of c a) a (sym (has_is c a) ∙ h)

pub has-not : (c : Cells) (a : ℕ) → has c a ≡ false → find c a ≡ absent (place_of c a)
has-not c a h = find_absent c a (sym (has_is c a) ∙ h)

-- ---- at the end: an address above all used ones

pub inserted_end : (s : List ℕ) (n x : ℕ) → inserted s n n x ≡ set s n x
unfolding inserted moved_up
inserted_end s n x = let e : n - n ≡ 0 = omega arith in rw e

pub end_absent : (c : Cells) (a : ℕ) → ((k : ℕ) → k < c.count → get_or c.addresses k 0 < a) → find c a ≡ absent c.count
end_absent c a h =
    let e : place_of c a ≡ c.count = place_is c a c.count (omega arith) h (λ l. absurd (omega arith)) in
    find_absent c a (rw e (stands-not c c.count a (λ l _. omega arith))) ∙ ap absent e

pub stored_end : (c : Cells) (a v : ℕ) → ((k : ℕ) → k < c.count → get_or c.addresses k 0 < a) → stored c a v ≡ cells (c.count + 1) (set c.addresses c.count a) (set c.values c.count v)
stored_end c a v h =
    sym (write-absent c a v c.count (sym (end_absent c a h)))
    ∙ (λ d. cells (c.count + 1) (inserted_end c.addresses c.count a d) (inserted_end c.values c.count v d))

-- the next cell of ascending ones is absent from those before, and one cell more is a write of it
pub next-absent : (s v : List ℕ) (n i : ℕ) → falls_of s (n - 1) ≡ 0 → i < n → find (cells i s v) (get_or s i 0) ≡ absent i
next-absent s v n i e h = end_absent (cells i s v) (get_or s i 0) (λ k l. ascending_rises s n e k i l h)

pub next_cell : (s v : List ℕ) (n i : ℕ) → falls_of s (n - 1) ≡ 0 → i < n → stored (cells i s v) (get_or s i 0) (get_or v i 0) ≡ cells (i + 1) s v
next_cell s v n i e h =
    stored_end (cells i s v) (get_or s i 0) (get_or v i 0) (λ k l. ascending_rises s n e k i l h)
    ∙ (λ d. cells (i + 1) (set-get_or s i 0 d) (set-get_or v i 0 d))

-- ---- ascending cells that have the same addresses have them at the same places

module _ (c d : Cells) (rc : Rising c.addresses c.count) (rd : Rising d.addresses d.count) (same : (a : ℕ) → has c a ≡ has d a) where
  -- given the places before i
  agree_step : (i : ℕ) → i < c.count → ((k : ℕ) → k < i → get_or d.addresses k 0 ≡ get_or c.addresses k 0) → (i < d.count) × (get_or d.addresses i 0 ≡ get_or c.addresses i 0)
  agree_step i l before = go (ltb (place_of d (get_or c.addresses i 0)) i) (eqb (place_of d (get_or c.addresses i 0)) i) refl refl
    where
      there : (place_of d (get_or c.addresses i 0) < d.count) × (get_or d.addresses (place_of d (get_or c.addresses i 0)) 0 ≡ get_or c.addresses i 0)
      there = has_where d (get_or c.addresses i 0) (sym (same (get_or c.addresses i 0)) ∙ has_there c i rc l)

      -- were it further up, what stands at i in d would stand in c, at no place
      nowhere : i < d.count → get_or d.addresses i 0 < get_or c.addresses i 0 → ⊥
      nowhere m f =
          let w = has_where c (get_or d.addresses i 0) (same (get_or d.addresses i 0) ∙ has_there d i rd m) in
          place (place_of c (get_or d.addresses i 0)) w.0 w.1 (ltb (place_of c (get_or d.addresses i 0)) i) (eqb (place_of c (get_or d.addresses i 0)) i) refl refl
        where
          place : (r : ℕ) → r < c.count → get_or c.addresses r 0 ≡ get_or d.addresses i 0 → (t u : Bool) → ltb r i ≡ t → eqb r i ≡ u → ⊥
          place r x y true u p z =
              let k = ltb-true r i p in
              omega (arith, rd r i k m, before r k, y)
          place r x y false true p z =
              let k : get_or c.addresses i 0 ≡ get_or d.addresses i 0 = rw (eqb-true r i z) at y in
              omega (arith, f, k)
          place r x y false false p z =
              let n = eqb-false r i z in
              let k : i < r = omega (arith, ltb-false r i p) in
              omega (arith, rc i r k x, f, y)

      go : (t u : Bool) → ltb (place_of d (get_or c.addresses i 0)) i ≡ t → eqb (place_of d (get_or c.addresses i 0)) i ≡ u → (i < d.count) × (get_or d.addresses i 0 ≡ get_or c.addresses i 0)
      go true u x y =
          let k = ltb-true (place_of d (get_or c.addresses i 0)) i x in
          absurd (omega (arith, rc (place_of d (get_or c.addresses i 0)) i k l, before (place_of d (get_or c.addresses i 0)) k, there.1))
      go false true x y = let k = eqb-true (place_of d (get_or c.addresses i 0)) i y in rw k at there
      go false false x y =
          let n = eqb-false (place_of d (get_or c.addresses i 0)) i y in
          let k : i < place_of d (get_or c.addresses i 0) = omega (arith, ltb-false (place_of d (get_or c.addresses i 0)) i x) in
          let m : i < d.count = omega (arith, there.0) in
          absurd (nowhere m (omega (arith, rd i (place_of d (get_or c.addresses i 0)) k there.0, there.1)))

  agree_below : (n i : ℕ) → i < n → i < c.count → (i < d.count) × (get_or d.addresses i 0 ≡ get_or c.addresses i 0)
  agree_below zero i h l = absurd (omega arith)
  agree_below (suc n) i h l = agree_step i l (λ k m. (agree_below n k (omega arith) (omega arith)).1)

  pub agree : (i : ℕ) → i < c.count → (i < d.count) × (get_or d.addresses i 0 ≡ get_or c.addresses i 0)
  agree i l = agree_below (suc i) i (omega arith) l

  pub agree_count : c.count ≤ d.count
  agree_count = go c.count refl
    where
      go : (n : ℕ) → c.count ≡ n → c.count ≤ d.count
      go zero e = omega arith
      go (suc n) e = omega (arith, e, (agree n (omega arith)).0)

-- ascending cells that hold the same, in slices as long, are alike: cell for cell
pub alike_by : (c d : Cells) → Rising c.addresses c.count → Rising d.addresses d.count → ((a : ℕ) → has c a ≡ has d a) → ((a : ℕ) → held c a ≡ held d a) →
    length c.addresses ≡ length d.addresses → length c.values ≡ length d.values → Alike c d
alike_by c d rc rd h v la lv =
    record {
      count = omega (arith, agree_count c d rc rd h, agree_count d c rd rc (λ a. sym (h a)));
      addresses = λ i l. sym (agree c d rc rd h i l).1;
      values = λ i l.
          let e = agree c d rc rd h i l in
          sym (held_there c i rc l) ∙ v (get_or c.addresses i 0) ∙ ap (held d) (sym e.1) ∙ held_there d i rd e.0;
      room = la;
      pair = lv;
    }
