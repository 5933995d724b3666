-- A group's table: what it says of an address, after one record more, after its late cells are merged, and after it is halved.
-- Assumes nothing.
use mathlib.Core.Path.{◌≡◌, refl, sym, subst, ◌∙◌}
use mathlib.Core.Bool.{Bool, true, false}
use mathlib.Core.List.{List, [], ◌∷◌, ◌++◌}
use Prim.Native.Nat.{ℕ, zero, suc, ◌+◌, ◌-◌, ◌/◌, ◌≤◌, ◌<◌}
use native.Mathlib.Omega.{arith}
use borrow.Author.Tests.{eqb-true, ltb-true, lt-ltb, leb-false}
use lib.ListN.{length, get_or, set}
use lib.Dec.{eqb, ltb, leb}
use Rattle.choices.specs.Choice.{cond}
use Rattle.machine.specs.Ram.{Cells, cells, at, absent, find, held, has, stored, place_of, falls_of}
use Rattle.machine_ram.specs.RamView.{Room, Stored}
use Rattle.machine_ram.proofs.RamView.{read_at_lem, write-at}
use Rattle.machine.proofs.RamLaws.{Rising, rises_ascending, place_is, held-stored, has-stored, stored-count, stored_addresses}
use Rattle.machine_ram.proofs.Order.{has_there}
use Rattle.replay_table.specs.Merge.{Sorted, stored_all, lacked, Merging, Merged}
use Rattle.replay_table.specs.Group.{inside, RightAt, of_other, is_of_timed, is_of_stack, of_write, of_outside, WrongAt}
use Rattle.replay_table.specs.TableView.{Touches, by_other, by_timed, by_stack, by_outside, by_unchecked, by_right, by_wrong, by_write}
use Rattle.replay.specs.LastWrite.{wrote_of, had_of}
use Rattle.replay_table.specs.TableView.{Waits}
use Rattle.replay_table.specs.Table.{seen, known, Paired, Table, Puts, in_table, in_late, Makes, left, merged, halved}
use Rattle.machine.specs.Records.{Record, other, timed, stack, ram}
use Rattle.replay_table.proofs.CountLaws.{wrote-append, had_append}
use Rattle.replay_table.proofs.CellsLaws.{sorted_ascends, has-none, cut_has, cut-held}
use Rattle.replay_table.proofs.StoresLaws.{Stores, stores, stored-sorted}
use Rattle.replay_table.proofs.GroupLaws.{apart, inside_true, inside_in, other_address}

-- ---- where an address is found

pub at_has : (t : Cells) (a i : ℕ) → at i ≡ find t a → has t a ≡ true
unfolding has
at_has t a i e = rw (← e)

pub absent-has : (t : Cells) (a i : ℕ) → absent i ≡ find t a → has t a ≡ false
unfolding has
absent-has t a i e = rw (← e)

pub word_here : (t : Cells) (a i x : ℕ) → at i ≡ find t a → get_or t.values i 0 ≡ cond (has t a) (held t a) x
word_here t a i x e = rw (at_has t a i e) (read_at_lem t a i e)

pub word_not : (t : Cells) (a i x : ℕ) → absent i ≡ find t a → x ≡ cond (has t a) (held t a) x
word_not t a i x e = rw (absent-has t a i e)

pub seen_here : (t l : Cells) (a i x : ℕ) → at i ≡ find t a → get_or t.values i 0 ≡ seen t l a x
unfolding seen
seen_here t l a i x e = word_here t a i _ e

pub seen-not : (t l : Cells) (a i x : ℕ) → absent i ≡ find t a → cond (has l a) (held l a) x ≡ seen t l a x
unfolding seen
seen-not t l a i x e = word_not t a i _ e

pub put_here : (t l : Cells) (a v i : ℕ) → at i ≡ find t a → Puts t l a v (cells t.count t.addresses (set t.values i v)) l
put_here t l a v i e = rw (write-at t a v i e) (in_table (at_has t a i e))

pub put-not : (t l : Cells) (a v i : ℕ) → absent i ≡ find t a → {d : Cells} → Stored l a v d → Puts t l a v t d
put-not t l a v i e s = rw s.is (in_late (absent-has t a i e))

-- ---- sorted cells

pub sorted_by : (c : Cells) → c.count ≤ length c.addresses → length c.addresses ≡ length c.values → falls_of c.addresses (c.count - 1) ≡ 0 → Sorted c
sorted_by c h p f = record { usable = record { ordered = record { within = h; ascending = f }; values = omega arith }; pair = p }

pub sorted_none : (s v : List ℕ) → length s ≡ length v → Sorted (cells 0 s v)
unfolding falls_of
sorted_none s v p = sorted_by (cells 0 s v) (omega arith) p refl

stored-few : (c : Cells) (a v : ℕ) → (stored c a v).count ≤ c.count + 1
stored-few c a v = rw (stored-count c a v) (go (has c a))
  where
    go : (b : Bool) → cond b c.count (c.count + 1) ≤ c.count + 1
    go true = omega arith
    go false = omega arith

pub late_room : {t l : Cells} → Paired t l → (a v : ℕ) → l.count < length l.addresses → Room l a v
late_room {t} {l} k a v h = record { ordered = k.late.usable.ordered; pair = k.late.pair; fits = omega (arith, stored-few l a v) }

-- ---- the late cells merged

lacked_apart : (t l : Cells) → Sorted l → ((a : ℕ) → has t a ≡ true → has l a ≡ false) → (k : ℕ) → k ≤ l.count → lacked t l k ≡ k
unfolding lacked
lacked_apart t l s f zero h = refl
lacked_apart t l s f (suc k) h = go (has t (get_or l.addresses k 0)) refl (lacked_apart t l s f k (omega arith))
  where
    go : (b : Bool) → has t (get_or l.addresses k 0) ≡ b → lacked t l k ≡ k → lacked t l k + cond b 0 1 ≡ suc k
    go true e i = absurd (apart (sym (has_there l k (sorted_ascends s) h) ∙ f _ e))
    go false e i = omega arith

pub settling : {t l : Cells} → Paired t l → Merging t l (t.count + l.count)
settling {t} {l} p =
    record {
      into = p.table;
      from = p.late;
      is = omega (arith, lacked_apart t l p.late p.apart l.count (omega arith));
      room = p.room;
    }

settled : {t l : Cells} → Paired t l → Stores t l l.count (stored_all t l l.count)
settled {t} {l} p =
    stores t l l.count p.table p.late (omega arith)
    (omega (arith, lacked_apart t l p.late p.apart l.count (omega arith), p.room))

pub settled-length : {t l : Cells} → Paired t l → length (stored_all t l l.count).addresses ≡ length t.addresses
settled-length p = (settled p).addresses

module _ {t l : Cells} (p : Paired t l) (s v : List ℕ) (q : length s ≡ length v) where
  abbrev all : Cells
  all = stored_all t l l.count

  facts : Stores t l l.count all
  facts = settled p

  settled-seen : (a x : ℕ) → seen all (cells 0 s v) a x ≡ seen t l a x
  unfolding seen
  settled-seen a x = rw (facts.has_is a, facts.held_is a, has-none s v a) (go (has t a) (has l a) refl refl)
    where
      go : (b d : Bool) → has t a ≡ b → has l a ≡ d → ◌≡◌ {A = ℕ} (cond (cond d true b) (cond d (held l a) (held t a)) x) (cond b (held t a) (cond d (held l a) x))
      go true true e f = absurd (apart (sym f ∙ p.apart a e))
      go true false e f = refl
      go false true e f = refl
      go false false e f = refl

  settled-known : (a : ℕ) → known all (cells 0 s v) a ≡ known t l a
  unfolding known
  settled-known a = rw (facts.has_is a, has-none s v a) (go (has t a) (has l a))
    where
      go : (b d : Bool) → cond (cond d true b) true false ≡ cond b true d
      go true true = refl
      go true false = refl
      go false true = refl
      go false false = refl

  pub settled-count : all.count ≡ t.count + l.count
  settled-count = omega (arith, facts.count, lacked_apart t l p.late p.apart l.count (omega arith))

  settled-paired : Paired all (cells 0 s v)
  settled-paired =
      record {
        table = facts.sorted;
        late = sorted_none s v q;
        apart = λ a _. has-none s v a;
        room = omega (arith, settled-count, facts.addresses, p.room);
      }

  pub table-settled : {lo hi : ℕ} {done : List Record} → Table lo hi done t l → Table lo hi done all (cells 0 s v)
  table-settled k =
      record {
        seen_is = λ a e x. settled-seen a x ∙ k.seen_is a e x;
        known_is = λ a e. settled-known a ∙ k.known_is a e;
        only = λ a e. k.only a (sym (settled-known a) ∙ e);
        cells = settled-paired;
      }

-- ---- halved

-- a full table's lower half, for the addresses below the first of the upper half
module _ {lo hi : ℕ} {done : List Record} {t : Cells} {s v : List ℕ} (k : Table lo hi done t (cells 0 s v)) (h : ℕ) (l : 0 < h) (m : h < t.count) where
  abbrev first : ℕ
  first = get_or t.addresses h 0

  abbrev half : Cells
  half = cells h t.addresses t.values

  rises : Rising t.addresses t.count
  rises = sorted_ascends k.cells.table

  place : place_of t first ≡ h
  place = place_is t first h (omega arith) (λ j i. rises j h i m) (λ _. omega arith)

  half_has : (a : ℕ) → has half a ≡ cond (ltb a first) (has t a) false
  half_has a = rw place at (cut_has t rises first a)

  half_held : (a : ℕ) → a < first → held half a ≡ held t a
  half_held a i = rw place at (cut-held t rises first a i)

  first-inside : inside lo hi first ≡ true
  unfolding known
  first-inside = k.only first (rw (has_there t h rises m))

  lowest_inside : inside lo hi (get_or t.addresses 0 0) ≡ true
  unfolding known
  lowest_inside = let z : 0 < t.count = omega arith in k.only (get_or t.addresses 0 0) (rw (has_there t 0 rises z))

  pub half_above : lo < first
  half_above = omega (arith, inside_true lo hi _ lowest_inside, rises 0 h l m)

  pub half_below : first < hi
  half_below = omega (arith, inside_true lo hi _ first-inside)

  wider : (a : ℕ) → inside lo first a ≡ true → inside lo hi a ≡ true
  wider a e =
      let i = inside_true lo first a e in
      inside_in lo hi a i.0 (omega (arith, half_below))

  half_known : (a : ℕ) → a < first → known half (cells 0 s v) a ≡ known t (cells 0 s v) a
  unfolding known
  half_known a i = rw (half_has a, lt-ltb a first i)

  half_seen : (a x : ℕ) → a < first → seen half (cells 0 s v) a x ≡ seen t (cells 0 s v) a x
  unfolding seen
  half_seen a x i = rw (half_held a i, half_has a, lt-ltb a first i)

  half_only : (a : ℕ) → known half (cells 0 s v) a ≡ true → inside lo first a ≡ true
  unfolding known
  half_only a e = go (ltb a first) (has t a) refl refl (rw (half_has a, has-none s v a) at e)
    where
      go : (b d : Bool) → ltb a first ≡ b → has t a ≡ d → cond (cond b d false) true false ≡ true → inside lo first a ≡ true
      go true true f g z =
          let i = inside_true lo hi a (k.only a (rw g)) in
          inside_in lo first a i.0 (ltb-true a first f)
      go true false f g z = absurd (apart (sym z))
      go false d f g z = absurd (apart (sym z))

  pub table-halved : Table lo first done half (cells 0 s v)
  table-halved =
      record {
        seen_is = λ a e x. half_seen a x (inside_true lo first a e).1 ∙ k.seen_is a (wider a e) x;
        known_is = λ a e. half_known a (inside_true lo first a e).1 ∙ k.known_is a (wider a e);
        only = half_only;
        cells =
            record {
              table =
                  sorted_by half (omega (arith, k.cells.table.usable.ordered.within)) k.cells.table.pair
                  (rises_ascending t.addresses h (λ i j x y. rises i j x (omega arith)));
              late = k.cells.late;
              apart = λ a _. has-none s v a;
              room = omega (arith, k.cells.table.usable.ordered.within);
            };
      }

-- ---- room made

pub waits_by : (n m most late : ℕ) → m < late → n + m < most → Waits n m most late (leb m (n / 32 + 16))
waits_by n m most late h k = record { late_room = λ _. h; room = λ _. k; many = λ e _ _. let l = leb-false m (n / 32 + 16) e in omega arith }

pub waits-not : {n m most late : ℕ} {r : Bool} → Waits n m most late r → r ≡ false → Waits n m most late false
waits-not {n} {m} {most} {late} w e = subst (Waits n m most late) e w

pub made_merged : (t l d : Cells) (hi : ℕ) → Waits t.count l.count (length t.addresses) (length l.addresses) false → d.count ≡ t.count + l.count → Merged t l d → d.count < length t.addresses → Makes t l hi d 0 hi
made_merged t l d hi w e m h = rw m.is (merged (λ x. w.many refl x (omega arith)) (omega arith))

pub made_halved : (t l d : Cells) (hi k : ℕ) → k ≡ length t.addresses / 2 → Merged t l d → t.count + l.count ≡ length t.addresses →
    Makes t l hi (cells k d.addresses d.values) 0 (get_or d.addresses k 0)
made_halved t l d hi k e m h = rw (m.is, e) (halved h)

-- the table then, up to the address b, with m late cells
pub record Roomy (lo hi : ℕ) (done : List Record) (t : Cells) (s v : List ℕ) (u : Cells) (m b : ℕ) : Type 0 where
  pub table : Table lo b done u (cells m s v)
  pub late : m < length s
  pub room : u.count + m < length u.addresses
  pub same : length u.addresses ≡ length t.addresses
  pub above : lo < b
  pub below : b ≤ hi
  -- less than before: half of the table's room is used
  pub half : b < hi → length t.addresses / 2 ≤ u.count
  pub more : b ≡ hi → t.count ≤ u.count

pub table_made : {lo hi : ℕ} {done : List Record} {t : Cells} {n : ℕ} {s v : List ℕ} {u : Cells} {m b : ℕ} →
    Table lo hi done t (cells n s v) → Makes t (cells n s v) hi u m b → lo < hi → 1 < length t.addresses → 0 < length s → Roomy lo hi done t s v u m b
table_made k (left i j) h two one =
    record { table = k; late = i; room = j; same = refl; above = h; below = omega arith; half = λ z. absurd (omega arith); more = λ _. omega arith }
table_made {lo} {hi} {done} {t} {n} {s} {v} k (merged f j) h two one =
    let p = k.cells in
    let e = settled-count p s v p.late.pair in
    record {
      table = table-settled p s v p.late.pair k;
      late = one;
      room = omega (arith, e, (settled p).addresses);
      same = (settled p).addresses;
      above = h;
      below = omega arith;
      half = λ z. absurd (omega arith);
      more = λ _. omega (arith, e);
    }
table_made {lo} {hi} {done} {t} {n} {s} {v} k (halved j) h two one =
    let p = k.cells in
    let e = settled-count p s v p.late.pair in
    let q = table-settled p s v p.late.pair k in
    let x : 0 < length t.addresses / 2 = omega arith in
    let y : length t.addresses / 2 < (stored_all t (cells n s v) n).count = omega (arith, e) in
    let b = half_below q (length t.addresses / 2) x y in
    record {
      table = table-halved q (length t.addresses / 2) x y;
      late = one;
      room = omega (arith, (settled p).addresses);
      same = (settled p).addresses;
      above = half_above q (length t.addresses / 2) x y;
      below = omega arith;
      half = λ _. omega arith;
      more = λ z. absurd (omega arith);
    }

-- ---- a write

cond_true : (x : Bool) → cond x true true ≡ true
cond_true true = refl
cond_true false = refl

module _ {t l : Cells} (k : Paired t l) (r : l.count < length l.addresses) (a v : ℕ) where
  table_fits : has t a ≡ true → (stored t a v).count ≤ length t.addresses
  table_fits e = rw (stored-count t a v, e) k.table.usable.ordered.within

  late-fits : (stored l a v).count ≤ length l.addresses
  late-fits = omega (arith, stored-few l a v)

  pub put-seen : {u m : Cells} → Puts t l a v u m → (b x : ℕ) → seen u m b x ≡ cond (eqb b a) v (seen t l b x)
  unfolding seen
  put-seen (in_table e) b x = rw (has-stored t a v (table_fits e) k.table.pair b, held-stored t a v (table_fits e) k.table.pair b) (go (eqb b a))
    where
      go : (y : Bool) → ◌≡◌ {A = ℕ} (cond (cond y true (has t b)) (cond y v (held t b)) (cond (has l b) (held l b) x)) (cond y v (cond (has t b) (held t b) (cond (has l b) (held l b) x)))
      go true = refl
      go false = refl
  put-seen (in_late e) b x = rw (has-stored l a v late-fits k.late.pair b, held-stored l a v late-fits k.late.pair b) (go (eqb b a) refl)
    where
      go : (y : Bool) → eqb b a ≡ y → ◌≡◌ {A = ℕ} (cond (has t b) (held t b) (cond (cond y true (has l b)) (cond y v (held l b)) x)) (cond y v (cond (has t b) (held t b) (cond (has l b) (held l b) x)))
      go true q = let z : has t b ≡ false = rw (eqb-true b a q) e in rw z
      go false q = refl

  pub put-known : {u m : Cells} → Puts t l a v u m → (b : ℕ) → known u m b ≡ cond (eqb b a) true (known t l b)
  unfolding known
  put-known (in_table e) b = rw (has-stored t a v (table_fits e) k.table.pair b) (go (eqb b a))
    where
      go : (y : Bool) → cond (cond y true (has t b)) true (has l b) ≡ cond y true (cond (has t b) true (has l b))
      go true = refl
      go false = refl
  put-known (in_late e) b = rw (has-stored l a v late-fits k.late.pair b) (go (eqb b a))
    where
      go : (y : Bool) → cond (has t b) true (cond y true (has l b)) ≡ cond y true (cond (has t b) true (has l b))
      go true = cond_true (has t b)
      go false = refl

  pub put-paired : {u m : Cells} → Puts t l a v u m → t.count + l.count < length t.addresses → Paired u m
  put-paired (in_table e) h =
      record {
        table = stored-sorted t a v k.table (table_fits e);
        late = k.late;
        apart = λ b f. go b (eqb b a) refl (sym (has-stored t a v (table_fits e) k.table.pair b) ∙ f);
        room = rw (stored-count t a v, e, stored_addresses t a v) k.room;
      }
    where
      go : (b : ℕ) (y : Bool) → eqb b a ≡ y → cond y true (has t b) ≡ true → has l b ≡ false
      go b true q f = rw (eqb-true b a q) (k.apart a e)
      go b false q f = k.apart b f
  put-paired (in_late e) h =
      record {
        table = k.table;
        late = stored-sorted l a v k.late late-fits;
        apart = λ b f. has-stored l a v late-fits k.late.pair b ∙ go b (eqb b a) refl f;
        room = omega (arith, stored-few l a v);
      }
    where
      go : (b : ℕ) (y : Bool) → eqb b a ≡ y → has t b ≡ true → cond y true (has l b) ≡ false
      go b true q f = absurd (apart (sym f ∙ rw (eqb-true b a q) e))
      go b false q f = k.apart b f

-- ---- one record more

module _ {lo hi : ℕ} {done : List Record} {t l : Cells} (k : Table lo hi done t l) where
  -- a record that says nothing of the group's addresses
  kept : (r : Record) → ((a : ℕ) → inside lo hi a ≡ true → (x : ℕ) → wrote_of (r ∷ []) a x ≡ x) → ((a : ℕ) → inside lo hi a ≡ true → (x : Bool) → had_of (r ∷ []) a x ≡ x) → Table lo hi (done ++ (r ∷ [])) t l
  kept r f g =
      record {
        seen_is = λ a e x. k.seen_is a e x ∙ sym (wrote-append done (r ∷ []) a x ∙ f a e _);
        known_is = λ a e. k.known_is a e ∙ sym (had_append done (r ∷ []) a false ∙ g a e _);
        only = k.only;
        cells = k.cells;
      }

  written : (x a v d : ℕ) {u m : Cells} → l.count < length l.addresses → t.count + l.count < length t.addresses → inside lo hi a ≡ true → Puts t l a v u m → Table lo hi (done ++ (ram x a v (suc d) ∷ [])) u m
  unfolding wrote_of had_of
  written x a v d i j e p =
      record {
        seen_is = λ y f z. put-seen k.cells i a v p y z ∙ rw (k.seen_is y f z) (sym (wrote-append done (ram x a v (suc d) ∷ []) y z));
        known_is = λ y f. put-known k.cells i a v p y ∙ rw (k.known_is y f) (sym (had_append done (ram x a v (suc d) ∷ []) y false));
        only = λ y f. go y (eqb y a) refl (sym (put-known k.cells i a v p y) ∙ f);
        cells = put-paired k.cells i a v p j;
      }
    where
      go : (y : ℕ) (q : Bool) → eqb y a ≡ q → cond q true (known t l y) ≡ true → inside lo hi y ≡ true
      go y true q f = rw (eqb-true y a q) e
      go y false q f = k.only y f

module _ {b : Bool} {lo hi : ℕ} {c : Cells} {done : List Record} {t l : Cells} (k : Table lo hi done t l) where
  pub turn_right : {r : Record} {w : Bool} {u m : Cells} → Touches b lo hi c t l r w u m → b ≡ true → w ≡ false → RightAt lo hi c done r
  turn_right by_other x z = of_other
  turn_right by_timed x z = is_of_timed
  turn_right by_stack x z = is_of_stack
  turn_right (by_outside {d = zero} e) x z = of_outside e
  turn_right (by_outside {d = suc d} e) x z = of_write
  turn_right (by_unchecked e) x z = absurd (apart (sym x ∙ e))
  turn_right (by_right {a = a} f e) x z = RightAt.of_read (f ∙ k.seen_is a e _)
  turn_right (by_wrong y e f) x z = absurd (apart z)
  turn_right (by_write e f) x z = of_write

  pub turn_wrong : {r : Record} {w : Bool} {u m : Cells} → Touches b lo hi c t l r w u m → w ≡ true → (b ≡ true) × WrongAt lo hi c done r
  turn_wrong by_other z = absurd (apart (sym z))
  turn_wrong by_timed z = absurd (apart (sym z))
  turn_wrong by_stack z = absurd (apart (sym z))
  turn_wrong (by_outside e) z = absurd (apart (sym z))
  turn_wrong (by_unchecked e) z = absurd (apart (sym z))
  turn_wrong (by_right f e) z = absurd (apart (sym z))
  turn_wrong (by_wrong {a = a} y e f) z = (y, WrongAt.of_read e (λ g. f (g ∙ sym (k.seen_is a e _))))
  turn_wrong (by_write e f) z = absurd (apart (sym z))

  -- a wrong read leaves the table as it is
  pub turn_still : {r : Record} {w : Bool} {u m : Cells} → Touches b lo hi c t l r w u m → w ≡ true → Table lo hi done u m
  turn_still by_other z = k
  turn_still by_timed z = k
  turn_still by_stack z = k
  turn_still (by_outside e) z = k
  turn_still (by_unchecked e) z = k
  turn_still (by_right f e) z = k
  turn_still (by_wrong y e f) z = k
  turn_still (by_write e f) z = absurd (apart (sym z))

  pub turn_table : {r : Record} {w : Bool} {u m : Cells} → Touches b lo hi c t l r w u m → w ≡ false → l.count < length l.addresses → t.count + l.count < length t.addresses → Table lo hi (done ++ (r ∷ [])) u m
  unfolding wrote_of had_of
  turn_table (by_other {k = n} {s = s}) z i j = kept k (other n s) (λ _ _ _. refl) (λ _ _ _. refl)
  turn_table (by_timed {k = n} {x = x} {s = s}) z i j = kept k (timed n x s) (λ _ _ _. refl) (λ _ _ _. refl)
  turn_table (by_stack {x = x} {q = q} {d = d} {v = v}) z i j = kept k (stack x q d v) (λ _ _ _. refl) (λ _ _ _. refl)
  turn_table (by_outside {x = x} {a = a} {v = v} {d = zero} e) z i j = kept k (ram x a v 0) (λ _ _ _. refl) (λ _ _ _. refl)
  turn_table (by_outside {x = x} {a = a} {v = v} {d = suc d} e) z i j = kept k (ram x a v (suc d)) (λ y f _. rw (other_address lo hi y a f e)) (λ y f _. rw (other_address lo hi y a f e))
  turn_table (by_unchecked {x = x} {a = a} {v = v} e) z i j = kept k (ram x a v 0) (λ _ _ _. refl) (λ _ _ _. refl)
  turn_table (by_right {x = x} {a = a} {v = v} f e) z i j = kept k (ram x a v 0) (λ _ _ _. refl) (λ _ _ _. refl)
  turn_table (by_wrong y e f) z i j = absurd (apart z)
  turn_table (by_write {x = x} {a = a} {v = v} {d = d} e f) z i j = written k x a v d i j e f
