-- The cells after all writes: what they hold, how many they are, and that nothing behind them changes. Assumes nothing.
use mathlib.Core.Path.{◌≡◌, refl, sym, ◌∙◌}
use mathlib.Core.Bool.{Bool, true, false}
use mathlib.Core.List.{List, [], ◌∷◌, ◌++◌, append_assoc, append-nil}
use Prim.Native.Nat.{ℕ, zero, suc, ◌+◌, ◌≤◌}
use native.Mathlib.Omega.{arith}
use lib.ListN.{length, get_or}
use Rattle.choices.specs.Choice.{cond}
use Rattle.machine.specs.Words.{p}
use Rattle.machine.specs.Ram.{Cells, has, held, stored}
use Rattle.machine.specs.Records.{Record, other, timed, stack, ram}
use Rattle.machine.proofs.RamLaws.{stored-count, stored_addresses, stored_values, has-stored, held-stored}
use Rattle.replay.specs.LastWrite.{wrote_of, had_of, wrote_all}
use Rattle.replay_table.specs.Merge.{Sorted}
use Rattle.replay_scan.specs.Scan.{Fine, is_of_ram, Fines, none, more}
use Rattle.replay_table.specs.Group.{inside, new_in, cells_in}
use Rattle.replay_table.proofs.GroupLaws.{inside_in, cells-append}
use Rattle.replay_table.proofs.CountLaws.{wrote-append, had_append}
use Rattle.replay_table.proofs.StoresLaws.{stored-behind, stored-sorted}

-- ---- the cells after records

pub all_append : (c : Cells) (rs ss : List Record) → wrote_all c (rs ++ ss) ≡ wrote_all (wrote_all c rs) ss
unfolding wrote_all
all_append c [] ss = refl
all_append c (other k s ∷ rs) ss = all_append c rs ss
all_append c (timed k t s ∷ rs) ss = all_append c rs ss
all_append c (stack t q d v ∷ rs) ss = all_append c rs ss
all_append c (ram t a v zero ∷ rs) ss = all_append c rs ss
all_append c (ram t a v (suc d) ∷ rs) ss = all_append (stored c a v) rs ss

-- ---- the cells that records take of a group, counted from the cells k that have what the records before leave of it

module _ (lo hi : ℕ) (c k : Cells) (before : List Record) (h : (a : ℕ) → inside lo hi a ≡ true → has k a ≡ had_of before a (has c a)) where
  new_since : (done : List Record) (r : Record) → new_in lo hi c (before ++ done) r ≡ new_in lo hi k done r
  unfolding new_in
  new_since done (other n s) = refl
  new_since done (timed n t s) = refl
  new_since done (stack t q d v) = refl
  new_since done (ram t a v zero) = refl
  new_since done (ram t a v (suc d)) = go (inside lo hi a) refl
    where
      go : (y : Bool) → inside lo hi a ≡ y → ◌≡◌ {A = ℕ} (cond y (cond (had_of (before ++ done) a (has c a)) 0 1) 0) (cond y (cond (had_of done a (has k a)) 0 1) 0)
      go true e = rw (had_append before done a (has c a), h a e)
      go false e = refl

  cells-since : (done rs : List Record) → cells_in lo hi c (before ++ done) rs ≡ cells_in lo hi k done rs
  unfolding cells_in
  cells-since done [] = refl
  cells-since done (r ∷ rs) = rw (new_since done r, append_assoc before done (r ∷ []), cells-since (done ++ (r ∷ [])) rs)

  pub cells-next : (rs : List Record) → cells_in lo hi c before rs ≡ cells_in lo hi k [] rs
  cells-next rs = rw append-nil at (cells-since [] rs)

-- ---- all writes of records

-- what the cells d after the writes among rs are, from the cells c before
pub record Wrote (c : Cells) (rs : List Record) (d : Cells) : Type 0 where
  pub has_is : (a : ℕ) → has d a ≡ had_of rs a (has c a)
  pub held_is : (a : ℕ) → held d a ≡ wrote_of rs a (held c a)
  pub sorted : Sorted d
  pub addresses : length d.addresses ≡ length c.addresses
  pub values : length d.values ≡ length c.values
  pub count : d.count ≡ c.count + cells_in 0 p c [] rs
  pub behind : (i : ℕ) → d.count ≤ i → (get_or d.addresses i 0 ≡ get_or c.addresses i 0) × (get_or d.values i 0 ≡ get_or c.values i 0)

-- records that write nothing
wrote_nothing : (c : Cells) (rs : List Record) → Sorted c → ((a : ℕ) (x : Bool) → had_of rs a x ≡ x) → ((a x : ℕ) → wrote_of rs a x ≡ x) → cells_in 0 p c [] rs ≡ 0 → Wrote c rs c
wrote_nothing c rs s h w n =
    record {
      has_is = λ a. sym (h a (has c a));
      held_is = λ a. sym (w a (held c a));
      sorted = s;
      addresses = refl;
      values = refl;
      count = omega arith;
      behind = λ i l. (refl, refl);
    }

-- one record
pub wrote_one : (c : Cells) (r : Record) → Sorted c → Fine r → c.count + cells_in 0 p c [] (r ∷ []) ≤ length c.addresses → Wrote c (r ∷ []) (wrote_all c (r ∷ []))
unfolding had_of wrote_of wrote_all new_in cells_in
wrote_one c (other k s) z f l = wrote_nothing c (other k s ∷ []) z (λ a x. refl) (λ a x. refl) refl
wrote_one c (timed k t s) z f l = wrote_nothing c (timed k t s ∷ []) z (λ a x. refl) (λ a x. refl) refl
wrote_one c (stack t q d v) z f l = wrote_nothing c (stack t q d v ∷ []) z (λ a x. refl) (λ a x. refl) refl
wrote_one c (ram t a v zero) z f l = wrote_nothing c (ram t a v 0 ∷ []) z (λ a x. refl) (λ a x. refl) refl
wrote_one c (ram t a v (suc d)) z (is_of_ram h _ _) l =
    let n : (stored c a v).count ≡ c.count + cells_in 0 p c [] (ram t a v (suc d) ∷ []) = stored-count c a v ∙ rw (inside_in 0 p a (omega arith) h) (go (has c a)) in
    let m : (stored c a v).count ≤ length c.addresses = omega arith in
    record {
      has_is = has-stored c a v m z.pair;
      held_is = held-stored c a v m z.pair;
      sorted = stored-sorted c a v z m;
      addresses = stored_addresses c a v;
      values = stored_values c a v;
      count = n;
      behind = stored-behind c a v m z.pair;
    }
  where
    go : (x : Bool) → cond x c.count (c.count + 1) ≡ c.count + (cond x 0 1 + 0)
    go true = omega arith
    go false = omega arith

-- records behind others
pub wrote_join : {c d e : Cells} {rs ss : List Record} → Wrote c rs d → Wrote d ss e → Wrote c (rs ++ ss) e
wrote_join {c} {d} {e} {rs} {ss} x y =
    let n : e.count ≡ c.count + cells_in 0 p c [] (rs ++ ss) = omega (arith, x.count, y.count, cells-append 0 p c [] rs ss, cells-next 0 p c d rs (λ a _. x.has_is a) ss) in
    record {
      has_is = λ a. y.has_is a ∙ rw (x.has_is a) (sym (had_append rs ss a (has c a)));
      held_is = λ a. y.held_is a ∙ rw (x.held_is a) (sym (wrote-append rs ss a (held c a)));
      sorted = y.sorted;
      addresses = y.addresses ∙ x.addresses;
      values = y.values ∙ x.values;
      count = n;
      behind = λ i l.
          let u = y.behind i l in
          let w = x.behind i (omega (arith, y.count)) in
          (u.0 ∙ w.0, u.1 ∙ w.1);
    }

pub wrote-all : (c : Cells) (rs : List Record) → Sorted c → Fines rs → c.count + cells_in 0 p c [] rs ≤ length c.addresses → Wrote c rs (wrote_all c rs)
unfolding had_of wrote_of wrote_all cells_in
wrote-all c [] s none l = wrote_nothing c [] s (λ a x. refl) (λ a x. refl) refl
wrote-all c (r ∷ rs) s (more f fs) l =
    let n = cells-append 0 p c [] (r ∷ []) rs in
    let x = wrote_one c r s f (omega arith) in
    let m = cells-next 0 p c (wrote_all c (r ∷ [])) (r ∷ []) (λ a _. x.has_is a) rs in
    let y = wrote-all (wrote_all c (r ∷ [])) rs x.sorted fs (omega (arith, x.count, x.addresses)) in
    rw (all_append c (r ∷ []) rs) (wrote_join x y)
