-- Groups of addresses brought into the cells, one behind the other: after the last one the cells are those after all writes.
-- Assumes nothing.
use mathlib.Core.Path.{◌≡◌, refl, sym, ap, subst, ◌∙◌}
use mathlib.Core.Bool.{Bool, true, false}
use mathlib.Core.List.{List, [], ◌++◌, append-nil}
use Prim.Native.Nat.{ℕ, zero, suc, ◌+◌, ◌*◌, ◌≤◌, ◌<◌}
use native.Mathlib.Omega.{arith}
use borrow.Author.Tests.{ne_eqb, ltb-true, ltb-false}
use lib.ListN.{length, get_or}
use lib.Dec.{eqb, ltb}
use Rattle.choices.specs.Choice.{cond}
use Rattle.machine.specs.Words.{p}
use Rattle.machine.specs.Ram.{Cells, cells, has, held}
use Rattle.machine.specs.Records.{Record}
use Rattle.replay.specs.LastWrite.{wrote_of, had_of, wrote_all}
use Rattle.replay_scan.specs.Walk.{Log, Walk}
use Rattle.replay_scan.specs.Scan.{of_other, is_of_timed, is_of_stack, is_of_ram, Fines, none, more}
use Rattle.replay_table.specs.Merge.{Sorted, lacked, Lacked, Merging, Merged}
use Rattle.replay_table.specs.Group.{inside, cells_in, distinct_in}
use Rattle.replay_table.specs.Table.{seen, Table}
use Rattle.replay_group.specs.GroupView.{Gathered}
use Rattle.replay_group.specs.WriteView.{Fits, Brings, Fitting, Written, Few}
use Rattle.replay_scan.proofs.Walks.{walk_same}
use Rattle.replay_scan.proofs.WalkLaws.{walk-count}
use Rattle.replay_table.proofs.GroupLaws.{apart, inside_true, inside_in, inside-above, cells-both}
use Rattle.replay_table.proofs.CellsLaws.{has-none, same-cells}
use Rattle.replay_table.proofs.CountLaws.{had_or, distinct_few, distinct_both}
use Rattle.replay_table.proofs.StoresLaws.{Stores, stores}
use Rattle.replay_group.proofs.WroteLaws.{cells-next, Wrote, wrote-all}
use Rattle.replay_group.proofs.SweepLaws.{none-cells, table_only, table_had, table-lacked, table_distinct, many}

-- ---- addresses that no record has

high_one : (a b : ℕ) → b < p → p ≤ a → eqb a b ≡ false
high_one a b l h = ne_eqb a b (λ e. omega arith)

high_had : {rs : List Record} → Fines rs → (a : ℕ) → p ≤ a → (x : Bool) → had_of rs a x ≡ x
unfolding had_of
high_had none a h x = refl
high_had (more (of_other) fs) a h x = high_had fs a h x
high_had (more (is_of_timed) fs) a h x = high_had fs a h x
high_had (more (is_of_stack) fs) a h x = high_had fs a h x
high_had (more (is_of_ram {d = zero} i j k) fs) a h x = high_had fs a h x
high_had (more (is_of_ram {a = b} {d = suc d} i j k) fs) a h x = rw (high_one a b i h) (high_had fs a h x)

high_wrote : {rs : List Record} → Fines rs → (a : ℕ) → p ≤ a → (x : ℕ) → wrote_of rs a x ≡ x
unfolding wrote_of
high_wrote none a h x = refl
high_wrote (more (of_other) fs) a h x = high_wrote fs a h x
high_wrote (more (is_of_timed) fs) a h x = high_wrote fs a h x
high_wrote (more (is_of_stack) fs) a h x = high_wrote fs a h x
high_wrote (more (is_of_ram {d = zero} i j k) fs) a h x = high_wrote fs a h x
high_wrote (more (is_of_ram {a = b} {d = suc d} i j k) fs) a h x = rw (high_one a b i h) (high_wrote fs a h x)

-- ---- the writes to addresses below lo are in the cells d

pub record Brought (lo : ℕ) (c : Cells) (rs : List Record) (d : Cells) : Type 0 where
  pub has_is : (a : ℕ) → has d a ≡ cond (inside 0 lo a) (had_of rs a (has c a)) (has c a)
  pub held_is : (a : ℕ) → held d a ≡ cond (inside 0 lo a) (wrote_of rs a (held c a)) (held c a)
  pub sorted : Sorted d
  pub count : d.count ≡ c.count + cells_in 0 lo c [] rs
  pub addresses : length d.addresses ≡ length c.addresses
  pub behind : (i : ℕ) → d.count ≤ i → (get_or d.addresses i 0 ≡ get_or c.addresses i 0) × (get_or d.values i 0 ≡ get_or c.values i 0)

pub brought-none : (c : Cells) (rs : List Record) → Sorted c → Brought 0 c rs c
brought-none c rs s =
    record {
      has_is = λ a. rw (inside-above 0 0 a (omega arith));
      held_is = λ a. rw (inside-above 0 0 a (omega arith));
      sorted = s;
      count = omega (arith, none-cells c [] rs);
      addresses = refl;
      behind = λ _ _. (refl, refl);
    }

-- ---- a group more

module _ {lo hi : ℕ} {c : Cells} {rs : List Record} {d t : Cells} {s v : List ℕ} (b : Brought lo c rs d) (l : lo ≤ hi) (k : Table lo hi rs t (cells 0 s v)) where
  -- those of the group are still the opening's
  outside : (a : ℕ) → inside lo hi a ≡ true → inside 0 lo a ≡ false
  outside a e = inside-above 0 lo a (inside_true lo hi a e).0

  same-has : (a : ℕ) → inside lo hi a ≡ true → has d a ≡ has c a
  same-has a e = b.has_is a ∙ rw (outside a e)

  same-held : (a : ℕ) → inside lo hi a ≡ true → held d a ≡ held c a
  same-held a e = b.held_is a ∙ rw (outside a e)

  takes : d.count + lacked d t t.count ≡ c.count + cells_in 0 hi c [] rs
  unfolding had_of
  takes = omega (arith, b.count, table-lacked k d, cells-next lo hi d c [] (λ a e. sym (same-has a e)) rs, cells-both 0 lo hi (omega arith) l c [] rs)

  pub brought-fits : c.count + cells_in 0 p c [] rs ≤ length c.addresses → hi ≤ p → Fits d t
  brought-fits r h =
      record {
        into = b.sorted;
        from = k.cells.table;
        room = omega (arith, takes, b.addresses, cells-both 0 hi p (omega arith) h c [] rs);
      }

  -- an address of another group
  rest : (a : ℕ) → inside lo hi a ≡ false → inside 0 hi a ≡ inside 0 lo a
  rest a e = go (ltb a lo) refl
    where
      go : (x : Bool) → ltb a lo ≡ x → inside 0 hi a ≡ inside 0 lo a
      go true q =
          let i = ltb-true a lo q in
          inside_in 0 hi a (omega arith) (omega arith) ∙ sym (inside_in 0 lo a (omega arith) i)
      go false q = high (ltb a hi) refl (ltb-false a lo q)
        where
          high : (x : Bool) → ltb a hi ≡ x → lo ≤ a → inside 0 hi a ≡ inside 0 lo a
          high true z i = absurd (apart (sym (inside_in lo hi a i (ltb-true a hi z)) ∙ e))
          high false z i = inside-above 0 hi a (ltb-false a hi z) ∙ sym (inside-above 0 lo a i)

  group : (a : ℕ) → inside lo hi a ≡ true → inside 0 hi a ≡ true
  group a e = inside_in 0 hi a (omega arith) (inside_true lo hi a e).1

  lacks : (a : ℕ) → inside lo hi a ≡ false → has t a ≡ false
  lacks a e = go (has t a) refl
    where
      go : (x : Bool) → has t a ≡ x → has t a ≡ false
      go true q = absurd (apart (sym (table_only k a q) ∙ e))
      go false q = q

  says : (a : ℕ) → inside lo hi a ≡ true → (x : ℕ) → cond (has t a) (held t a) x ≡ wrote_of rs a x
  unfolding seen
  says a e x = rw (has-none s v a) at (k.seen_is a e x)

  module _ {u : Cells} (r : Brings d t u) (f : Fits d t) where
    facts : Stores d t t.count u
    facts = rw r.merged.is (stores d t t.count f.into f.from (omega arith) f.room)

    more-has : (a : ℕ) → has u a ≡ cond (inside 0 hi a) (had_of rs a (has c a)) (has c a)
    more-has a = facts.has_is a ∙ go (inside lo hi a) refl
      where
        go : (x : Bool) → inside lo hi a ≡ x → cond (has t a) true (has d a) ≡ cond (inside 0 hi a) (had_of rs a (has c a)) (has c a)
        go true e = rw (group a e, table_had k a e, same-has a e) (sym (had_or rs a (has c a)))
        go false e = rw (lacks a e, rest a e) (b.has_is a)

    more-held : (a : ℕ) → held u a ≡ cond (inside 0 hi a) (wrote_of rs a (held c a)) (held c a)
    more-held a = facts.held_is a ∙ go (inside lo hi a) refl
      where
        go : (x : Bool) → inside lo hi a ≡ x → cond (has t a) (held t a) (held d a) ≡ cond (inside 0 hi a) (wrote_of rs a (held c a)) (held c a)
        go true e = rw (group a e, same-held a e) (says a e (held c a))
        go false e = rw (lacks a e, rest a e) (b.held_is a)

    pub brought-more : Brought hi c rs u
    brought-more =
        record {
          has_is = more-has;
          held_is = more-held;
          sorted = facts.sorted;
          count = facts.count ∙ takes;
          addresses = facts.addresses ∙ b.addresses;
          behind = λ i h.
              let x = facts.behind i h in
              let y = b.behind i (omega (arith, facts.count)) in
              (x.0 ∙ y.0, x.1 ∙ y.1);
        }

-- ---- all groups

pub brought-all : {c : Cells} {rs : List Record} {d : Cells} → Brought p c rs d → Sorted c → Fines rs → c.count + cells_in 0 p c [] rs ≤ length c.addresses → d ≡ wrote_all c rs
brought-all {c} {rs} {d} b s f r =
    let w = wrote-all c rs s f r in
    same-cells d (wrote_all c rs) b.sorted w.sorted (λ a. of_has a w (ltb a p) refl) (λ a. of_held a w (ltb a p) refl) (b.addresses ∙ sym w.addresses)
    (λ i h.
    let x = b.behind i h in
    let y = w.behind i (omega (arith, b.count, w.count)) in
    (x.0 ∙ sym y.0, x.1 ∙ sym y.1))
  where
    of_has : (a : ℕ) → Wrote c rs (wrote_all c rs) → (x : Bool) → ltb a p ≡ x → has d a ≡ has (wrote_all c rs) a
    of_has a w true e = b.has_is a ∙ rw (inside_in 0 p a (omega arith) (ltb-true a p e)) (sym (w.has_is a))
    of_has a w false e =
        let h = ltb-false a p e in
        b.has_is a ∙ rw (inside-above 0 p a h) (sym (w.has_is a ∙ high_had f a h (has c a)))

    of_held : (a : ℕ) → Wrote c rs (wrote_all c rs) → (x : Bool) → ltb a p ≡ x → held d a ≡ held (wrote_all c rs) a
    of_held a w true e = b.held_is a ∙ rw (inside_in 0 p a (omega arith) (ltb-true a p e)) (sym (w.held_is a))
    of_held a w false e =
        let h = ltb-false a p e in
        b.held_is a ∙ rw (inside-above 0 p a h) (sym (w.held_is a ∙ high_wrote f a h (held c a)))

-- a table of all records
pub brought-whole : {log : Log} {to : ℕ} {c : Cells} → (f : Fitting log to c) → {t : Cells} {s v : List ℕ} → Table 0 p f.records t (cells 0 s v) → Fits c t
brought-whole {c = c} f k = brought-fits (brought-none c f.records f.sorted) (omega arith) k f.room (omega arith)

pub written-whole : {log : Log} {to : ℕ} {c : Cells} → (f : Fitting log to c) → {t : Cells} {s v : List ℕ} → Table 0 p f.records t (cells 0 s v) → {u : Cells} → Brings c t u → Written log to c u
written-whole {c = c} f k {u} r =
    let e = brought-all (brought-more (brought-none c f.records f.sorted) (omega arith) k r (brought-whole f k)) f.sorted f.fine f.room in
    record { is = λ rs w. e ∙ ap (wrote_all c) (walk_same f.walk w) }

-- ---- the loop

-- below lo, in so many groups, of which each but the last has `half` addresses
pub record Writing (lo : ℕ) (c : Cells) (rs : List Record) (half groups : ℕ) (d : Cells) : Type 0 where
  pub brought : Brought lo c rs d
  pub few : groups * half ≤ distinct_in 0 lo rs + half
  pub full : lo < p → groups * half ≤ distinct_in 0 lo rs

pub writing-none : (c : Cells) (rs : List Record) (half : ℕ) → Sorted c → Writing 0 c rs half 0 c
writing-none c rs half s = record { brought = brought-none c rs s; few = omega arith; full = λ _. omega arith }

pub writing-few : {log : Log} {to lo : ℕ} {c : Cells} {rs : List Record} {half groups : ℕ} {d : Cells} → Walk log 0 to rs → Writing lo c rs half groups d → 0 < half → lo < p → groups ≤ to
writing-few {lo = lo} {rs = rs} {half} {groups} w g h l = omega (arith, many groups half (distinct_in 0 lo rs) (g.full l) h, distinct_few 0 lo rs, walk-count w)

-- without looking at reads a group goes over all records
pub gathered-all : {log : Log} {lo hi : ℕ} {c : Cells} {rs : List Record} {end : ℕ} {t : Cells} {s v : List ℕ} → Gathered log false lo hi c rs end t (cells 0 s v) → Table lo hi rs t (cells 0 s v)
gathered-all {lo = lo} {hi} {rs = rs} {t = t} {s} {v} g =
    let e : g.done ≡ rs = sym (g.joined ∙ ap (λ (x : List Record). g.done ++ x) (g.all refl) ∙ append-nil g.done) in
    subst (λ (x : List Record). Table lo hi x t (cells 0 s v)) e g.table

pub writing_more : {lo hi : ℕ} {c : Cells} {rs : List Record} {half groups : ℕ} {d t : Cells} {s v : List ℕ} → Writing lo c rs half groups d → lo < hi → hi ≤ p → lo < p → (k : Table lo hi rs t (cells 0 s v)) → {u : Cells} → Brings d t u → Fits d t →
    (hi < p → half ≤ t.count) → Writing hi c rs half (groups + 1) u
writing_more {lo} {hi} {rs = rs} g a h l k r f e =
    let w = distinct_both 0 lo hi (omega arith) (omega arith) rs in
    record {
      brought = brought-more g.brought (omega arith) k r f;
      few = omega (arith, g.full l, w);
      full = λ z. omega (arith, g.full l, w, table_distinct k, e z);
    }

-- ---- a table brought in

module _ (c t : Cells) (new : ℕ) (l : Lacked c.addresses c.count t.addresses t.count new) where
  new_is : new ≡ lacked c t t.count
  new_is = l.is c.values t.values

  pub bring_merging : Fits c t → Merging c t (c.count + new)
  bring_merging f = record { into = f.into; from = f.from; is = ap (λ (k : ℕ). c.count + k) new_is; room = omega (arith, f.room, new_is) }

  pub brings : (d : Cells) → d.count ≡ c.count + new → Merged c t d → Brings c t d
  brings d e m = record { count = omega (arith, e, new_is); merged = m }

-- ---- the loop's needs

pub writing-fits : {lo hi : ℕ} {c : Cells} {rs : List Record} {half groups : ℕ} {d t : Cells} {s v : List ℕ} → Writing lo c rs half groups d → lo < hi → Table lo hi rs t (cells 0 s v) →
    c.count + cells_in 0 p c [] rs ≤ length c.addresses → hi ≤ p → Fits d t
writing-fits g a k r h = brought-fits g.brought (omega arith) k r h

pub writing-room : {log : Log} {to : ℕ} {c : Cells} (f : Fitting log to c) {rs : List Record} → Walk log 0 to rs → c.count + cells_in 0 p c [] rs ≤ length c.addresses
writing-room {c = c} f w = rw (walk_same f.walk w) at f.room

pub writing_end : {log : Log} {to : ℕ} {c : Cells} {half groups : ℕ} {d : Cells} (f : Fitting log to c) → ((rs : List Record) → Walk log 0 to rs → Writing p c rs half groups d) → Written log to c d × Few log to half groups
writing_end {c = c} f g =
    let e = brought-all (g f.records f.walk).brought f.sorted f.fine f.room in
    (record { is = λ rs w. e ∙ ap (wrote_all c) (walk_same f.walk w) }, record { few = λ rs w. (g rs w).few })
