-- What the turns of merge's loops show. Assumes nothing.
use mathlib.Core.Path.{◌≡◌, refl, sym, ap, ◌∙◌}
use mathlib.Core.Bool.{Bool, true, false}
use mathlib.Core.List.{List}
use Prim.Native.Nat.{ℕ, zero, suc, ◌+◌, ◌-◌, ◌≤◌, ◌<◌}
use native.Mathlib.Omega.{arith}
use native.Mathlib.Numerals.{add-one}
use borrow.Author.Tests.{eqb-true, eqb-false}
use lib.ListN.{length, get_or, set, length-set}
use lib.Seq.{get_or-set_same, get_or-set_other}
use lib.Dec.{eqb}
use Rattle.choices.specs.Choice.{cond}
use Rattle.machine.specs.Ram.{Cells, cells, place_of, has_at, has, held}
use Rattle.machine_ram.specs.RamView.{Looked}
use Rattle.std.proofs.Common.{Ok, Err}
use Rattle.machine.proofs.RamLaws.{place-le, place-below, place_is}
use Rattle.machine_ram.proofs.Order.{has_there, has_where}
use Rattle.replay_table.specs.Merge.{stored_all, lacked, Merging, Merged, Topped, of_own, of_both, of_new, Lacked, LacksOne}
use Rattle.replay_table.proofs.CellsLaws.{address_at, value_at, Ascending, sorted_ascends, not-above, place_at, before_place, has_before, held_at, Highest, highest, under-place, under_top, under-lacks, place_most, place_same, address_same, value_same, false_by, same_lists}
use Rattle.replay_table.proofs.StoresLaws.{Stores, stores, lacked-next}

-- all cells of t stored into c
abbrev whole : Cells → Cells → Cells
whole c t = stored_all c t t.count

-- The cells from a bound on are in their places, from `to` on; those of c below it, the first i, are where they were.
pub record Merges (c t : Cells) (a v : List ℕ) (i j to : ℕ) : Type 0 where
  pub bound : ℕ
  pub own : place_of c bound ≡ i
  pub new : place_of t bound ≡ j
  pub all : place_of (whole c t) bound ≡ to
  pub kept : (k : ℕ) → k < i → (get_or a k 0 ≡ address_at c k) × (get_or v k 0 ≡ value_at c k)
  pub done : (k : ℕ) → to ≤ k → (get_or a k 0 ≡ address_at (whole c t) k) × (get_or v k 0 ≡ value_at (whole c t) k)
  pub addresses : length a ≡ length c.addresses
  pub values : length v ≡ length c.values

module _ (c t : Cells) (total : ℕ) (given : Merging c t total) where
  all-stored : Stores c t t.count (whole c t)
  all-stored = stores c t t.count given.into given.from (omega arith) (omega (arith, given.is, given.room))

  rises_own : Ascending c
  rises_own = sorted_ascends given.into

  rises_new : Ascending t
  rises_new = sorted_ascends given.from

  rises : Ascending (whole c t)
  rises = sorted_ascends all-stored.sorted

  -- an address of the whole is one of c or of t
  has-own : (a : ℕ) → has c a ≡ true → has (whole c t) a ≡ true
  has-own a h = all-stored.has_is a ∙ rw h (go (has t a))
    where
      go : (b : Bool) → cond b true true ≡ true
      go true = refl
      go false = refl

  has_new : (a : ℕ) → has t a ≡ true → has (whole c t) a ≡ true
  has_new a h = all-stored.has_is a ∙ rw h

  has_of : {X : Type 0} (a : ℕ) → has (whole c t) a ≡ true → (has c a ≡ true → X) → (has t a ≡ true → X) → X
  has_of {X} a h f g = go (has t a) refl (sym (all-stored.has_is a) ∙ h)
    where
      go : (b : Bool) → has t a ≡ b → cond b true (has c a) ≡ true → X
      go true e w = g e
      go false e w = f w

  -- at the start the bound is above all addresses
  pub merges_start : Merges c t c.addresses c.values c.count t.count total
  merges_start =
      record {
        bound = top;
        own = above-all c own_below;
        new = above-all t new_below;
        all = above-all (whole c t) (λ k l. has_of (address_at (whole c t) k) (has_there (whole c t) k rises l) (below c own_below (address_at (whole c t) k)) (below t new_below (address_at (whole c t) k)))
            ∙ omega (arith, all-stored.count, given.is);
        kept = λ k l. (refl, refl);
        done = λ k l. let w = all-stored.behind k (omega (arith, all-stored.count, given.is)) in (sym w.0, sym w.1);
        addresses = refl;
        values = refl;
      }
    where
      top : ℕ
      top = suc (address_at c (c.count - 1) + address_at t (t.count - 1))

      own_below : (k : ℕ) → k < c.count → address_at c k < top
      own_below k l = omega (arith, not-above c rises_own k (c.count - 1) (omega arith) (omega arith))

      new_below : (k : ℕ) → k < t.count → address_at t k < top
      new_below k l = omega (arith, not-above t rises_new k (t.count - 1) (omega arith) (omega arith))

      above-all : (d : Cells) → ((k : ℕ) → k < d.count → address_at d k < top) → place_of d top ≡ d.count
      above-all d h = place_is d top d.count (omega arith) h (λ l. absurd (omega arith))

      below : (d : Cells) → ((k : ℕ) → k < d.count → address_at d k < top) → (a : ℕ) → has d a ≡ true → a < top
      below d h a e = let w = has_where d a e in omega (arith, h (place_of d a) w.0, w.1)

  -- ---- a turn

  module _ {a v : List ℕ} {i j to : ℕ} (m : Merges c t a v i j to) where
    highest-own : 0 < i → Highest c m.bound (i - 1)
    highest-own l = highest c rises_own m.bound (i - 1) (omega (arith, m.own))

    highest_new : 0 < j → Highest t m.bound (j - 1)
    highest_new l = highest t rises_new m.bound (j - 1) (omega (arith, m.new))

    -- what top asks
    pub merges-top : 0 < j → (i ≤ length a) × (i ≤ length v) × (0 < j) × (j ≤ length t.addresses) × (j ≤ length t.values)
    merges-top l = (
      omega (arith, m.own, place-le c m.bound, given.into.usable.ordered.within, m.addresses),
      omega (arith, m.own, place-le c m.bound, given.into.usable.values, m.values),
      l,
      omega (arith, m.new, place-le t m.bound, given.from.usable.ordered.within),
      omega (arith, m.new, place-le t m.bound, given.from.usable.values),
    )

    -- there is a place left
    place-left : 0 < to → (to - 1 < length a) × (to - 1 < length v)
    place-left l =
        let k = place-le (whole c t) m.bound in (
          omega (arith, m.all, all-stored.sorted.usable.ordered.within, all-stored.addresses, m.addresses),
          omega (arith, m.all, all-stored.sorted.usable.values, all-stored.values, m.values),
        )

    pub merges-left : 0 < j → (0 < to) × (to - 1 < length a) × (to - 1 < length v)
    merges-left l =
        let h = highest_new l in
        let k : 0 < to = omega (arith, m.all, has_before (whole c t) rises (address_at t (j - 1)) m.bound (has_new (address_at t (j - 1)) h.there) h.below) in
        (k, (place-left k).0, (place-left k).1)

    -- the highest address x of the whole below the bound goes to the last place left, and is the bound then
    module _ (x w : ℕ) (l : x < m.bound) (there : has (whole c t) x ≡ true) (word : held (whole c t) x ≡ w) (top : (y : ℕ) → has (whole c t) y ≡ true → y < m.bound → y ≤ x) where
      last-left : (0 < to) × (to - 1 < (whole c t).count) × (address_at (whole c t) (to - 1) ≡ x)
      last-left =
          let n : 0 < to = omega (arith, m.all, has_before (whole c t) rises x m.bound there l) in
          let k : to - 1 < (whole c t).count = omega (arith, m.all, place-le (whole c t) m.bound) in
          let h = highest (whole c t) rises m.bound (to - 1) (omega (arith, m.all)) in
          (n, k, omega (arith, h.top x there l, top (address_at (whole c t) (to - 1)) h.there h.below))

      turn_place : place_of (whole c t) x ≡ to - 1
      turn_place = ap (place_of (whole c t)) (sym last-left.2) ∙ place_at (whole c t) rises (to - 1) last-left.1

      turn_word : value_at (whole c t) (to - 1) ≡ w
      turn_word = sym (held_at (whole c t) rises (to - 1) x last-left.1 last-left.2) ∙ word

      merges_by : Merges c t (set a (to - 1) x) (set v (to - 1) w) (place_of c x) (place_of t x) (to - 1)
      merges_by =
          record {
            bound = x;
            own = refl;
            new = refl;
            all = turn_place;
            kept = λ k h.
                let n : k < i = omega (arith, m.own, before_place c rises_own m.bound k (omega (arith, place-le c x)) (omega (arith, place-below c x k h))) in
                let d : k ≡ to - 1 → ⊥ = λ e. omega (arith, place_most c (whole c t) rises_own rises x (λ y _. has-own y), turn_place) in
                (get_or-set_other a (to - 1) k x 0 d ∙ (m.kept k n).0, get_or-set_other v (to - 1) k w 0 d ∙ (m.kept k n).1);
            done = λ k h. at_or_behind k h (eqb k (to - 1)) refl;
            addresses = length-set a (to - 1) x ∙ m.addresses;
            values = length-set v (to - 1) w ∙ m.values;
          }
        where
          at_or_behind : (k : ℕ) → to - 1 ≤ k → (b : Bool) → eqb k (to - 1) ≡ b →
              (get_or (set a (to - 1) x) k 0 ≡ address_at (whole c t) k) × (get_or (set v (to - 1) w) k 0 ≡ value_at (whole c t) k)
          at_or_behind k h true e =
              rw (eqb-true k (to - 1) e) (
                get_or-set_same a (to - 1) x 0 (place-left last-left.0).0 ∙ sym last-left.2,
                get_or-set_same v (to - 1) w 0 (place-left last-left.0).1 ∙ sym turn_word,
              )
          at_or_behind k h false e =
              let d = eqb-false k (to - 1) e in
              let n = m.done k (omega arith) in
              (get_or-set_other a (to - 1) k x 0 d ∙ n.0, get_or-set_other v (to - 1) k w 0 d ∙ n.1)

    of_own_turn : 0 < i → address_at t (j - 1) < address_at c (i - 1) → Merges c t (set a (to - 1) (address_at c (i - 1))) (set v (to - 1) (value_at c (i - 1))) (i - 1) j (to - 1)
    of_own_turn p e =
        let x = address_at c (i - 1) in
        let h = highest-own p in
        rw (h.place, under-place t rises_new m.bound j x m.new (λ _. e) (omega (arith, h.below))) at
        (merges_by x (value_at c (i - 1)) h.below (has-own x h.there)
        (all-stored.held_is x ∙ rw (under-lacks t rises_new m.bound j x m.new (λ _. e) h.below) h.word)
        (λ y s n. has_of y s (λ f. h.top y f n) (λ f. omega (arith, under_top t rises_new m.bound j x m.new (λ _. e) y f n))))

    -- the new cell's word goes where t has the address, whatever c has
    of_new_turn : (q : ℕ) → 0 < j → place_of c (address_at t (j - 1)) ≡ q → ((y : ℕ) → has c y ≡ true → y < m.bound → y ≤ address_at t (j - 1)) →
        Merges c t (set a (to - 1) (address_at t (j - 1))) (set v (to - 1) (value_at t (j - 1))) q (j - 1) (to - 1)
    of_new_turn q p e top =
        let x = address_at t (j - 1) in
        let h = highest_new p in
        rw (e, h.place) at
        (merges_by x (value_at t (j - 1)) h.below (has_new x h.there) (all-stored.held_is x ∙ rw h.there h.word)
        (λ y s n. has_of y s (λ f. top y f n) (λ f. h.top y f n)))

    pub merges_turn : {x w own new : ℕ} → 0 < j → Topped (cells i a v) (cells j t.addresses t.values) i j x w own new → Merges c t (set a (to - 1) x) (set v (to - 1) w) own new (to - 1)
    merges_turn l (of_own p e) = let k = m.kept (i - 1) (omega arith) in rw (k.0, k.1) (of_own_turn p (omega (arith, k.0)))
    merges_turn l (of_both p e) =
        let k = m.kept (i - 1) (omega arith) in
        let h = highest-own p in
        let z : address_at t (j - 1) ≡ address_at c (i - 1) = sym e ∙ k.0 in
        of_new_turn (i - 1) l (ap (place_of c) z ∙ h.place) (λ y f n. omega (arith, h.top y f n))
    merges_turn l (of_new e) =
        let x = address_at t (j - 1) in
        let u : 0 < i → address_at c (i - 1) < x = λ p. omega (arith, e p, (m.kept (i - 1) (omega arith)).0) in
        of_new_turn i l (under-place c rises_own m.bound i x m.own u (omega (arith, (highest_new l).below)))
        (λ y f n. omega (arith, under_top c rises_own m.bound i x m.own u y f n))

    -- ---- at the end no cell of t is below the bound: the whole below it is c

    pub merges_end : j ≤ 0 → Merged c t (cells total a v)
    merges_end l =
        let e : total ≡ (whole c t).count = given.is ∙ sym all-stored.count in
        let x = same_lists a (whole c t).addresses i (m.addresses ∙ sym all-stored.addresses) (λ k h. (rest k h).0) (λ k h. (m.done k (omega (arith, met))).0) in
        let y = same_lists v (whole c t).values i (m.values ∙ sym all-stored.values) (λ k h. (rest k h).1) (λ k h. (m.done k (omega (arith, met))).1) in
        record { is = λ d. cells (e d) (x d) (y d) }
      where
        none : (y : ℕ) → y < m.bound → has t y ≡ false
        none y s = false_by (has t y) (λ h. omega (arith, has_before t rises_new y m.bound h s, m.new))

        same : (y : ℕ) → y < m.bound → has c y ≡ has (whole c t) y
        same y s = sym (all-stored.has_is y ∙ rw (none y s))

        met : i ≡ to
        met = sym m.own ∙ place_same c (whole c t) rises_own rises m.bound same ∙ m.all

        rest : (k : ℕ) → k < i → (get_or a k 0 ≡ address_at (whole c t) k) × (get_or v k 0 ≡ value_at (whole c t) k)
        rest k h =
            let n : k < place_of c m.bound = omega (arith, m.own) in (
              (m.kept k h).0 ∙ address_same c (whole c t) rises_own rises m.bound same k n,
              (m.kept k h).1 ∙ value_same c (whole c t) rises_own rises m.bound same (λ y s. sym (all-stored.held_is y ∙ rw (none y s))) k n,
            )

-- ---- how many are new

pub lacks-not : (s : List ℕ) (n a i : ℕ) → Looked s n a (Ok i) → LacksOne s n a 0
unfolding has
lacks-not s n a i h = record { is = λ v. ap (λ f. cond (has_at f) 0 1) (h.is v); one = omega arith }

pub lacks_one : (s : List ℕ) (n a i : ℕ) → Looked s n a (Err i) → LacksOne s n a 1
unfolding has
lacks_one s n a i h = record { is = λ v. ap (λ f. cond (has_at f) 0 1) (h.is v); one = omega arith }

-- of t only the addresses count
pub lacked_by : (c : Cells) (s v : List ℕ) (n m k : ℕ) → lacked c (cells n s v) k ≡ lacked c (cells m s v) k
unfolding lacked
lacked_by c s v n m zero = refl
lacked_by c s v n m (suc k) = rw (lacked_by c s v n m k)

lacked-more : (c : Cells) (s v : List ℕ) (i : ℕ) → lacked c (cells (i + 1) s v) (i + 1) ≡ lacked c (cells i s v) i + cond (has c (get_or s i 0)) 0 1
lacked-more c s v i = ap (lacked c (cells (i + 1) s v)) (add-one i) ∙ lacked_by c s v (i + 1) i (suc i) ∙ lacked-next c (cells i s v) i

pub counted_none : (s : List ℕ) (n : ℕ) (keys : List ℕ) → Lacked s n keys 0 0
unfolding lacked
counted_none s n keys = record { is = λ v w. refl; few = omega arith }

pub counted-more : (s : List ℕ) (n : ℕ) (keys : List ℕ) (i new r : ℕ) → Lacked s n keys i new → LacksOne s n (get_or keys i 0) r → Lacked s n keys (i + 1) (new + r)
counted-more s n keys i new r h o =
    record {
      is = λ v w. rw (lacked-more (cells n s v) keys w i, ← h.is v w, ← o.is v);
      few = omega (arith, h.few, o.one);
    }
