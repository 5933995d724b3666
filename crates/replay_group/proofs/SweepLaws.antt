-- Group after group: what the groups before have shown goes on to hold for the records that a later one leaves. Assumes nothing.
use mathlib.Core.Path.{◌≡◌, refl, sym, ap, subst, ◌∙◌}
use mathlib.Core.List.{List, [], ◌∷◌, ◌++◌, append_assoc, append-nil}
use mathlib.Core.Bool.{Bool, true, false}
use Prim.Native.Nat.{ℕ, zero, suc, ◌+◌, ◌*◌, ◌≤◌, ◌<◌}
use native.Mathlib.Omega.{arith}
use lib.ListN.{length}
use Rattle.choices.specs.Choice.{cond}
use Rattle.machine.specs.Words.{p}
use Rattle.machine.specs.Ram.{Cells, cells, has}
use Rattle.machine.specs.Records.{Record, other, timed, stack, ram}
use Rattle.replay_scan.specs.Walk.{Log, Walk, Walked, log_of}
use Rattle.replay.specs.LastWrite.{had_of}
use Rattle.replay_table.specs.Merge.{lacked}
use Rattle.replay_table.specs.Table.{known, Table}
use Rattle.replay_group.specs.GroupView.{Lent, Gathered, Swept}
use Rattle.replay_group.specs.declared.group.Sweep.{Sweep}
use Rattle.replay_table.specs.Group.{inside, distinct_in, new_in, cells_in, RightAt, of_other, is_of_timed, is_of_stack, of_write, of_outside, Right, none, more, Stop, at_end, at_wrong, Came}
use Rattle.replay_table.proofs.CellsLaws.{has-none}
use Rattle.replay_table.proofs.CountLaws.{cells-lacked, cells_distinct, distinct_few, distinct_part, distinct_both}
use Rattle.replay_scan.proofs.Walks.{walk_same}
use Rattle.replay_scan.proofs.WalkLaws.{walk-count}
use Rattle.replay_table.proofs.GroupLaws.{inside-above, right-both, stop-left, stop-right, cells-both, right-first, cells-append, cells-few}

-- those before the place `end`, of the records rs, and the n cells that they take
pub record Passed (log : Log) (lo hi : ℕ) (c : Cells) (rs : List Record) (end n : ℕ) : Type 0 where
  pub done : List Record
  pub walk : Walk log 0 end done
  pub came : Came lo hi c rs done
  pub takes : n ≡ cells_in lo hi c [] done

-- below lo, with n cells counted so far
pub record Sweeping (log : Log) (to lo : ℕ) (c : Cells) (rs : List Record) (end n : ℕ) : Type 0 where
  pub done : List Record
  pub walk : Walk log 0 end done
  pub came : Came 0 lo c rs done
  pub most : n ≤ cells_in 0 lo c [] rs
  pub takes : end ≡ to → n ≡ cells_in 0 lo c [] rs

-- ---- no address

module _ (c : Cells) where
  none-at : (done : List Record) (r : Record) → RightAt 0 0 c done r
  none-at done (other k s) = of_other
  none-at done (timed k t s) = is_of_timed
  none-at done (stack t q d v) = is_of_stack
  none-at done (ram t a v zero) = of_outside (inside-above 0 0 a (omega arith))
  none-at done (ram t a v (suc d)) = of_write

  none_right : (done rs : List Record) → Right 0 0 c done rs
  none_right done [] = none
  none_right done (r ∷ rs) = more (none-at done r) (none_right (done ++ (r ∷ [])) rs)

  none_new : (done : List Record) (r : Record) → new_in 0 0 c done r ≡ 0
  unfolding new_in
  none_new done (other k s) = refl
  none_new done (timed k t s) = refl
  none_new done (stack t q d v) = refl
  none_new done (ram t a v zero) = refl
  none_new done (ram t a v (suc d)) = rw (inside-above 0 0 a (omega arith))

  pub none-cells : (done rs : List Record) → cells_in 0 0 c done rs ≡ 0
  unfolding cells_in
  none-cells done [] = refl
  none-cells done (r ∷ rs) = omega (arith, none_new done r, none-cells (done ++ (r ∷ [])) rs)

  pub sweep_none : {log : Log} {to : ℕ} {rs : List Record} → Walk log 0 to rs → Sweeping log to 0 c rs to 0
  sweep_none {rs = rs} w =
      record {
        done = rs;
        walk = w;
        came = record { rest = []; joined = sym (append-nil rs); right = none_right [] rs; stop = at_end };
        most = omega arith;
        takes = λ _. sym (none-cells [] rs);
      }

-- ---- a group more

module _ (lo hi : ℕ) (l : lo ≤ hi) {c : Cells} {rs : List Record} where
  came-more : {done less : List Record} → Came 0 lo c rs done → Came lo hi c done less → Came 0 hi c rs less
  came-more {done} {less} a b =
      record {
        rest = b.rest ++ a.rest;
        joined = a.joined ∙ ap (λ (x : List Record). x ++ a.rest) b.joined ∙ append_assoc less b.rest a.rest;
        right = right-both 0 lo hi (omega arith) l (right-first less b.rest (subst (Right 0 lo c []) b.joined a.right)) b.right;
        stop = stop b.rest b.joined b.stop;
      }
    where
      stop : (xs : List Record) → done ≡ less ++ xs → Stop lo hi c less xs → Stop 0 hi c less (xs ++ a.rest)
      stop [] e at_end = stop-left 0 lo hi (omega arith) l (subst (λ (x : List Record). Stop 0 lo c x a.rest) (e ∙ append-nil less) a.stop)
      stop (x ∷ xs) e (at_wrong w) = at_wrong (stop-right 0 lo hi (omega arith) l w)

-- a group from lo to hi, over the records that the groups before have left
module _ {log : Log} {to lo : ℕ} (hi : ℕ) {c : Cells} {rs : List Record} {end n : ℕ} (w : Walk log 0 to rs) (s : Sweeping log to lo c rs end n) (l : lo ≤ hi)
    {last m : ℕ} (p : Passed log lo hi c s.done last m) where
  came : Came 0 hi c rs p.done
  came = came-more lo hi l s.came p.came

  both : n + m ≤ cells_in 0 hi c [] rs
  both =
      let x = ap (cells_in lo hi c []) came.joined ∙ cells-append lo hi c [] p.done came.rest in
      omega (arith, s.most, p.takes, x, cells-both 0 lo hi (omega arith) l c [] rs)

  -- the sum fits where the log does
  pub sweep_fits : n + m ≤ to
  sweep_fits = omega (arith, both, cells-few 0 hi c [] rs, walk-count w)

  pub sweep_more : end ≤ to → last ≤ end → Sweeping log to hi c rs last (n + m)
  sweep_more i j = record { done = p.done; walk = p.walk; came = came; most = both; takes = takes }
    where
      takes : last ≡ to → n + m ≡ cells_in 0 hi c [] rs
      takes e =
          let y : Walk log 0 to p.done = rw e at p.walk in
          let z : p.done ≡ rs = walk_same y w in
          omega (arith, s.takes (omega arith), p.takes, ap (cells_in lo hi c []) z, cells-both 0 lo hi (omega arith) l c [] rs)

-- ---- what a group gives

-- with no late cells the table alone knows
table-has : (t : Cells) (s v : List ℕ) (a : ℕ) → known t (cells 0 s v) a ≡ has t a
unfolding known
table-has t s v a = rw (has-none s v a) (go (has t a))
  where
    go : (b : Bool) → cond b true false ≡ b
    go true = refl
    go false = refl

module _ {lo hi : ℕ} {done : List Record} {t : Cells} {s v : List ℕ} (k : Table lo hi done t (cells 0 s v)) where
  pub table_only : (a : ℕ) → has t a ≡ true → inside lo hi a ≡ true
  table_only a e = k.only a (table-has t s v a ∙ e)

  pub table_had : (a : ℕ) → inside lo hi a ≡ true → has t a ≡ had_of done a false
  table_had a e = sym (table-has t s v a) ∙ k.known_is a e

  pub table-lacked : (c : Cells) → lacked c t t.count ≡ cells_in lo hi c [] done
  table-lacked c = cells-lacked lo hi c t done k.cells.table table_only table_had

  pub table_distinct : t.count ≡ distinct_in lo hi done
  table_distinct = cells_distinct lo hi t done k.cells.table table_only table_had

pub passed_by : {log : Log} {lo hi : ℕ} {c : Cells} {rs : List Record} {end : ℕ} {t : Cells} {s v : List ℕ} {n : ℕ} → Gathered log true lo hi c rs end t (cells 0 s v) → n ≡ lacked c t t.count → Passed log lo hi c rs end n
passed_by {c = c} g e =
    record {
      done = g.done;
      walk = g.walk;
      came = record { rest = g.rest; joined = g.joined; right = g.right refl; stop = g.stop refl };
      takes = e ∙ table-lacked g.table c;
    }

-- ---- all groups

-- below lo; `groups` of them, of which each but the last has `half` addresses
pub record Grouping (log : Log) (to lo : ℕ) (c : Cells) (rs : List Record) (end n half groups : ℕ) (t : Cells) (s v : List ℕ) : Type 0 where
  pub sweeping : Sweeping log to lo c rs end n
  pub few : groups * half ≤ distinct_in 0 lo rs + half
  pub full : lo < p → groups * half ≤ distinct_in 0 lo rs
  pub none : groups ≡ 0 → lo ≡ 0
  pub one : groups ≡ 1 → Table 0 lo sweeping.done t (cells 0 s v)

pub grouping-none : {log : Log} {to : ℕ} (c : Cells) {rs : List Record} (half : ℕ) (t : Cells) (s v : List ℕ) → Walk log 0 to rs → Grouping log to 0 c rs to 0 half 0 t s v
grouping-none c half t s v w =
    record { sweeping = sweep_none c w; few = omega arith; full = λ _. omega arith; none = λ _. refl; one = λ z. absurd (omega arith) }

pub many : (groups half x : ℕ) → groups * half ≤ x → 0 < half → groups ≤ x
many groups zero x l h = absurd (omega arith)
many groups (suc k) x l h = omega arith

module _ {log : Log} {to lo : ℕ} (hi : ℕ) {c : Cells} {rs : List Record} {end n half groups : ℕ} {t : Cells} {s v : List ℕ} (w : Walk log 0 to rs) (g : Grouping log to lo c rs end n half groups t s v)
    {last m : ℕ} {u : Cells} {x y : List ℕ} (a : lo < hi) (d : Gathered log true lo hi c g.sweeping.done last u (cells 0 x y)) (e : m ≡ lacked c u u.count) where
  pub grouping-fits : n + m ≤ to
  grouping-fits = sweep_fits hi w g.sweeping (omega arith) (passed_by d e)

  -- a counter of the groups does not run over
  pub grouping-few : 0 < half → lo < p → groups ≤ to
  grouping-few h l = omega (arith, many groups half (distinct_in 0 lo rs) (g.full l) h, distinct_few 0 lo rs, walk-count w)

  wide : distinct_in 0 lo rs + distinct_in lo hi rs ≡ distinct_in 0 hi rs
  wide = distinct_both 0 lo hi (omega arith) (omega arith) rs

  -- its addresses are among those that all records write to
  share : u.count ≤ distinct_in lo hi rs
  share =
      let z = g.sweeping.came.joined in
      let i : distinct_in lo hi d.done ≤ distinct_in lo hi g.sweeping.done = rw d.joined (distinct_part lo hi d.done d.rest) in
      let k : distinct_in lo hi g.sweeping.done ≤ distinct_in lo hi rs = rw z (distinct_part lo hi g.sweeping.done g.sweeping.came.rest) in
      omega (arith, table_distinct d.table, i, k)

  pub grouping-more : end ≤ to → last ≤ end → lo < p → hi ≤ p → (hi < p → half ≤ u.count) → Grouping log to hi c rs last (n + m) half (groups + 1) u x y
  unfolding passed_by sweep_more
  grouping-more i j l b f =
      record {
        sweeping = sweep_more hi w g.sweeping (omega arith) (passed_by d e) i j;
        few = omega (arith, g.full l, wide);
        full = λ z. omega (arith, g.full l, wide, share, f z);
        none = λ z. absurd (omega arith);
        one = λ z. let q : lo ≡ 0 = g.none (omega arith) in subst (λ (k : ℕ). Table k hi d.done u (cells 0 x y)) q d.table;
      }

-- the slices of a table that has been used
pub lent_again : {ks vs s v ks2 vs2 s2 v2 : List ℕ} → Lent ks vs s v → length ks2 ≡ length ks → length vs2 ≡ length vs → length s2 ≡ length s → length v2 ≡ length v → Lent ks2 vs2 s2 v2
lent_again l a b c d = record { two = omega (arith, l.two); pair = omega (arith, l.pair); some = omega (arith, l.some); late = omega (arith, l.late) }

-- a place up to which records stand is in the bytes
pub walked-ends : {v : ℕ} {s : List ℕ} {to : ℕ} → Walked (log_of v s) to → to ≤ length s
walked-ends w = w.ends

-- a log up to where a sweep has come
pub sweep_walked : {log : Log} {to lo : ℕ} {c : Cells} {rs : List Record} {end n : ℕ} → to ≤ length log.bytes → end ≤ to → Sweeping log to lo c rs end n → Walked log end
sweep_walked l i s = record { records = s.done; walk = s.walk; ends = omega arith }

pub swept_all : {log : Log} {to : ℕ} {c : Cells} {rs : List Record} {half half2 : ℕ} {t : Cells} {s v : List ℕ} (r : Sweep) → half ≡ half2 → Grouping log to p c rs r.end r.cells half r.groups t s v → Swept log to c rs half2 r
swept_all r e g = record { done = g.sweeping.done; walk = g.sweeping.walk; came = g.sweeping.came; takes = g.sweeping.takes; few = rw e at g.few }

-- the one group of all records
pub swept-whole : {log : Log} {to : ℕ} {c : Cells} {rs : List Record} {end n half groups : ℕ} {t : Cells} {s v : List ℕ} → Walk log 0 to rs → end ≡ to → groups ≡ 1 → Grouping log to p c rs end n half groups t s v → Table 0 p rs t (cells 0 s v)
swept-whole {log} {rs = rs} {t = t} {s} {v} w e i g =
    let z : g.sweeping.done ≡ rs = walk_same (rw e at g.sweeping.walk) w in
    subst (λ (x : List Record). Table 0 p x t (cells 0 s v)) z (g.one i)
