-- What storing ascending cells one behind the other gives. Assumes nothing.
use mathlib.Core.Path.{◌≡◌, refl, sym, ap, ◌∙◌}
use mathlib.Core.Bool.{Bool, true, false}
use Prim.Native.Nat.{ℕ, zero, suc, ◌+◌, ◌≤◌, ◌<◌}
use native.Mathlib.Omega.{arith}
use native.Mathlib.Numerals.{add-one}
use lib.ListN.{length, get_or}
use lib.Seq.{get_or-set_other}
use lib.Dec.{eqb}
use Rattle.choices.specs.Choice.{cond}
use Rattle.machine.specs.Ram.{Cells, at, absent, Found, find, has_at, has, held, stored}
use Rattle.machine.proofs.RamLaws.{found_at, found-absent, stored-count, stored_more, stored_addresses, stored_values, has-stored, held-stored, stored-ascending}
use Rattle.machine_ram.proofs.RamView.{write-at, write-absent}
use Rattle.machine.proofs.Moves.{inserted-behind}
use Rattle.machine_ram.proofs.Order.{next-absent, next_cell}
use Rattle.replay_table.specs.Merge.{Sorted, stored_all, lacked}
use Rattle.replay_table.proofs.CellsLaws.{address_at, value_at, firsts, has-none}

-- a write that has room keeps cells sorted
pub stored-sorted : (c : Cells) (a v : ℕ) → Sorted c → (stored c a v).count ≤ length c.addresses → Sorted (stored c a v)
stored-sorted c a v s room =
    let x = stored_addresses c a v in
    let y = stored_values c a v in
    record {
      usable = record {
        ordered = record { within = omega arith; ascending = stored-ascending c a v room s.pair s.usable.ordered.ascending };
        values = omega (arith, s.pair);
      };
      pair = x ∙ s.pair ∙ sym y;
    }

-- a write that has room leaves the unused cells behind as they are
module _ (c : Cells) (a v : ℕ) (room : (stored c a v).count ≤ length c.addresses) (pair : length c.addresses ≡ length c.values) where
  pub stored-behind : (i : ℕ) → (stored c a v).count ≤ i → (get_or (stored c a v).addresses i 0 ≡ address_at c i) × (get_or (stored c a v).values i 0 ≡ value_at c i)
  stored-behind i h = go (find c a) refl
    where
      go : (f : Found) → f ≡ find c a → (get_or (stored c a v).addresses i 0 ≡ address_at c i) × (get_or (stored c a v).values i 0 ≡ value_at c i)
      go (at q) e =
          let w = write-at c a v q e in
          let m = (found_at c a q (sym e)).0 in
          let l : (stored c a v).count ≡ c.count = ap (λ (d : Cells). d.count) (sym w) in
          rw (← w) (refl, get_or-set_other c.values q i v 0 (λ z. omega arith))
      go (absent q) e =
          let w = write-absent c a v q e in
          let m = (found-absent c a q (sym e)).0 in
          let l : (stored c a v).count ≡ c.count + 1 = ap (λ (d : Cells). d.count) (sym w) in
          rw (← w) (
            inserted-behind c.addresses c.count q a m (omega arith) i (omega arith),
            inserted-behind c.values c.count q v m (omega arith) i (omega arith),
          )

-- one cell more of ascending ones
module _ (t : Cells) (k : ℕ) (s : Sorted t) (l : k < t.count) where
  next-is : stored (firsts t k) (address_at t k) (value_at t k) ≡ firsts t (suc k)
  next-is = next_cell t.addresses t.values t.count k s.usable.ordered.ascending l ∙ ap (firsts t) (add-one k)

  next-room : (stored (firsts t k) (address_at t k) (value_at t k)).count ≤ length t.addresses
  next-room = omega (arith, ap (λ (d : Cells). d.count) next-is, s.usable.ordered.within)

  next_new : has (firsts t k) (address_at t k) ≡ false
  unfolding has
  next_new = ap has_at (next-absent t.addresses t.values t.count k s.usable.ordered.ascending l)

  next-has : (a : ℕ) → has (firsts t (suc k)) a ≡ cond (eqb a (address_at t k)) true (has (firsts t k) a)
  next-has a = ap (λ (d : Cells). has d a) (sym next-is) ∙ has-stored (firsts t k) (address_at t k) (value_at t k) next-room s.pair a

  next-held : (a : ℕ) → held (firsts t (suc k)) a ≡ cond (eqb a (address_at t k)) (value_at t k) (held (firsts t k) a)
  next-held a = ap (λ (d : Cells). held d a) (sym next-is) ∙ held-stored (firsts t k) (address_at t k) (value_at t k) next-room s.pair a

-- ---- the first k cells of t stored into c

pub record Stores (c t : Cells) (k : ℕ) (r : Cells) : Type 0 where
  pub count : r.count ≡ c.count + lacked c t k
  pub has_is : (a : ℕ) → has r a ≡ cond (has (firsts t k) a) true (has c a)
  pub held_is : (a : ℕ) → held r a ≡ cond (has (firsts t k) a) (held (firsts t k) a) (held c a)
  pub sorted : Sorted r
  pub addresses : length r.addresses ≡ length c.addresses
  pub values : length r.values ≡ length c.values
  pub behind : (i : ℕ) → r.count ≤ i → (address_at r i ≡ address_at c i) × (value_at r i ≡ value_at c i)

lacked-none : (c t : Cells) → lacked c t 0 ≡ 0
unfolding lacked
lacked-none c t = refl

pub lacked-next : (c t : Cells) (k : ℕ) → lacked c t (suc k) ≡ lacked c t k + cond (has c (address_at t k)) 0 1
unfolding lacked
lacked-next c t k = refl

stores-none : (c t : Cells) → Sorted c → Stores c t 0 c
stores-none c t s =
    record {
      count = omega (arith, lacked-none c t);
      has_is = λ a. rw (has-none t.addresses t.values a);
      held_is = λ a. rw (has-none t.addresses t.values a);
      sorted = s;
      addresses = refl;
      values = refl;
      behind = λ i _. (refl, refl);
    }

module _ (c t r : Cells) (k : ℕ) (q : Stores c t k r) (s : Sorted t) (l : k < t.count) (fits : c.count + lacked c t (suc k) ≤ length c.addresses) where
  abbrev more : Cells
  more = stored r (address_at t k) (value_at t k)

  -- the cells before have a lesser address, so the next one is new where c lacks it
  more-count : more.count ≡ c.count + lacked c t (suc k)
  more-count =
      let e : has r (address_at t k) ≡ has c (address_at t k) = q.has_is (address_at t k) ∙ rw (next_new t k s l) in
      stored-count r (address_at t k) (value_at t k) ∙ rw (e, lacked-next c t k) (go (has c (address_at t k)))
    where
      go : (b : Bool) → cond b r.count (r.count + 1) ≡ c.count + (lacked c t k + cond b 0 1)
      go true = omega (arith, q.count)
      go false = omega (arith, q.count)

  more-fits : more.count ≤ length r.addresses
  more-fits = omega (arith, more-count, q.addresses)

  stores-more : Stores c t (suc k) more
  stores-more =
      record {
        count = more-count;
        has_is = λ a. has-stored r (address_at t k) (value_at t k) more-fits q.sorted.pair a
            ∙ rw (q.has_is a, next-has t k s l a) (of_has (eqb a (address_at t k)) (has (firsts t k) a) (has c a));
        held_is = λ a. held-stored r (address_at t k) (value_at t k) more-fits q.sorted.pair a
            ∙ rw (q.held_is a, next-has t k s l a, next-held t k s l a) (of_held (eqb a (address_at t k)) (has (firsts t k) a) (value_at t k) (held (firsts t k) a) (held c a));
        sorted = stored-sorted r (address_at t k) (value_at t k) q.sorted more-fits;
        addresses = lengths.0 ∙ q.addresses;
        values = lengths.1 ∙ q.values;
        behind = λ i h.
            let w = stored-behind r (address_at t k) (value_at t k) more-fits q.sorted.pair i h in
            let u = q.behind i (omega (arith, stored_more r (address_at t k) (value_at t k))) in
            (w.0 ∙ u.0, w.1 ∙ u.1);
      }
    where
      lengths : (length more.addresses ≡ length r.addresses) × (length more.values ≡ length r.values)
      lengths = (stored_addresses r (address_at t k) (value_at t k), stored_values r (address_at t k) (value_at t k))

      of_has : (e f g : Bool) → cond e true (cond f true g) ≡ cond (cond e true f) true g
      of_has true f g = refl
      of_has false f g = refl

      of_held : (e f : Bool) (v h g : ℕ) → cond e v (cond f h g) ≡ cond (cond e true f) (cond e v h) g
      of_held true f v h g = refl
      of_held false f v h g = refl

pub stores : (c t : Cells) (k : ℕ) → Sorted c → Sorted t → k ≤ t.count → c.count + lacked c t k ≤ length c.addresses → Stores c t k (stored_all c t k)
unfolding stored_all
stores c t zero sc st l h = stores-none c t sc
stores c t (suc k) sc st l h = stores-more c t (stored_all c t k) k (stores c t k sc st (omega arith) (omega (arith, lacked-next c t k))) st l h
