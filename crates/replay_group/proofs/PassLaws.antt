-- Going over a log for one group: a turn of the loop, and its end. Assumes nothing.
use mathlib.Core.Path.{◌≡◌, refl, sym, ap, ◌∙◌}
use mathlib.Core.Bool.{Bool, true, false}
use mathlib.Core.List.{List, [], ◌∷◌, ◌++◌, append_assoc}
use Prim.Native.Nat.{ℕ, ◌+◌, ◌/◌, ◌≤◌, ◌<◌}
use native.Mathlib.Omega.{arith}
use borrow.Author.Tests.{ltb-true, ltb-false}
use lib.ListN.{length}
use lib.Dec.{ltb}
use Rattle.machine.specs.Words.{p}
use Rattle.machine.specs.Ram.{Cells, cells}
use Rattle.machine.specs.Records.{Record}
use Rattle.machine_log.specs.Kinds.{kind_number}
use Rattle.replay_scan.specs.declared.record.Frame.{Frame}
use Rattle.replay_scan.specs.declared.record.Head.TheVariants.{Record as RecordHead}
use Rattle.replay.specs.LastWrite.{wrote_of, had_of}
use Rattle.replay_scan.specs.RecordView.{record_at, Headed}
use Rattle.replay_scan.specs.Walk.{Log, Walk, none, Walked}
use Rattle.replay_table.specs.Merge.{Merged}
use Rattle.replay_table.specs.Group.{Right, at_end, at_wrong}
use Rattle.replay_table.specs.Table.{seen, known, Paired, Table, Makes}
use Rattle.replay_group.specs.GroupView.{Lent, Gathered, Gathers}
use Rattle.replay_table.specs.TableView.{Touches}
use Rattle.replay_scan.proofs.Walks.{walk-append}
use Rattle.replay_scan.proofs.WalkLaws.{walk_end, Next, walk-next}
use Rattle.replay_table.proofs.GroupLaws.{apart, right_snoc, right-less}
use Rattle.replay_table.proofs.CellsLaws.{has-none}
use Rattle.replay_table.proofs.TableLaws.{sorted_none, Roomy, table_made, turn_right, turn_wrong, turn_still, turn_table, settled-length, table-settled}

-- of the records rs up to `to` those before the place `at` made the table; where reads are looked at, they are right
pub record Onward (log : Log) (to : ℕ) (b : Bool) (lo hi : ℕ) (c : Cells) (rs : List Record) (at : ℕ) (t l : Cells) : Type 0 where
  pub done : List Record
  pub rest : List Record
  pub joined : rs ≡ done ++ rest
  pub gone : Walk log 0 at done
  pub left : Walk log at to rest
  pub right : b ≡ true → Right lo hi c [] done
  pub table : Table lo hi done t l

-- ---- no record

pub table_none : (lo hi : ℕ) (ks vs s v : List ℕ) → length ks ≡ length vs → length s ≡ length v → Table lo hi [] (cells 0 ks vs) (cells 0 s v)
unfolding wrote_of had_of seen known
table_none lo hi ks vs s v h k =
    record {
      seen_is = λ a e x. rw (has-none ks vs a, has-none s v a);
      known_is = λ a e. rw (has-none ks vs a, has-none s v a);
      only = λ a e. absurd (apart (sym (rw (has-none ks vs a, has-none s v a) at e)));
      cells =
          record {
            table = sorted_none ks vs h;
            late = sorted_none s v k;
            apart = λ a _. has-none s v a;
            room = omega arith;
          };
    }

pub onward-none : {log : Log} {to : ℕ} (b : Bool) (lo hi : ℕ) (c : Cells) {rs : List Record} {ks vs s v : List ℕ} → Lent ks vs s v → Walk log 0 to rs → Onward log to b lo hi c rs 0 (cells 0 ks vs) (cells 0 s v)
onward-none b lo hi c {rs} {ks} {vs} {s} {v} l w =
    record {
      done = [];
      rest = rs;
      joined = refl;
      gone = none;
      left = w;
      right = λ _. Right.none;
      table = table_none lo hi ks vs s v l.pair l.late;
    }

-- ---- a turn

-- room made
pub onward_made : {log : Log} {to : ℕ} {b : Bool} {lo hi : ℕ} {c : Cells} {rs : List Record} {at : ℕ} {t : Cells} {n : ℕ} {s v : List ℕ} {u : Cells} {m y : ℕ} →
    (o : Onward log to b lo hi c rs at t (cells n s v)) → Roomy lo hi o.done t s v u m y → Onward log to b lo y c rs at u (cells m s v)
onward_made {lo = lo} {hi} {c} {y = y} o r =
    record {
      done = o.done;
      rest = o.rest;
      joined = o.joined;
      gone = o.gone;
      left = o.left;
      right = λ e. right-less lo y hi r.below (o.right e);
      table = r.table;
    }

module _ {log : Log} {to : ℕ} {b : Bool} {lo hi : ℕ} {c : Cells} {rs : List Record} {at : ℕ} {t l : Cells} (o : Onward log to b lo hi c rs at t l) where
  pub onward_end : to ≤ at → Gathered log b lo hi c rs at t l
  onward_end h =
      record {
        done = o.done;
        rest = o.rest;
        joined = o.joined;
        walk = o.gone;
        table = o.table;
        right = o.right;
        stop = λ _. rw (walk_end o.left h) at_end;
        all = λ _. walk_end o.left h;
      }

  module _ (h : Frame) (g : Headed log at (RecordHead h)) (m : to ≤ length log.bytes) (i : at < to) where
    pub next : Next log at to o.rest h
    next = walk-next h g m i o.left

    pub onward-next : {w : Bool} {u y : Cells} → Touches b lo hi c t l (record_at log at (kind_number h.kind)) w u y → w ≡ false → l.count < length l.addresses → t.count + l.count < length t.addresses →
        Onward log to b lo hi c rs (at + h.size + 2) u y
    onward-next f z j k =
        let r = record_at log at (kind_number h.kind) in
        let e : at + (h.size + 2) ≡ at + h.size + 2 = omega arith in
        record {
          done = o.done ++ (r ∷ []);
          rest = next.rest;
          joined = o.joined ∙ ap (λ (x : List Record). o.done ++ x) next.is ∙ sym (append_assoc o.done (r ∷ []) next.rest);
          gone = rw e at (walk-append (h.size + 2) o.gone next.parsed (omega arith));
          left = next.walk;
          right = λ q. right_snoc (o.right q) (turn_right o.table f q z);
          table = turn_table o.table f z j k;
        }

    pub onward-wrong : {w : Bool} {u y : Cells} → Touches b lo hi c t l (record_at log at (kind_number h.kind)) w u y → w ≡ true → Gathered log b lo hi c rs at u y
    onward-wrong f z =
        record {
          done = o.done;
          rest = o.rest;
          joined = o.joined;
          walk = o.gone;
          table = turn_still o.table f z;
          right = o.right;
          stop = λ _. rw next.is (at_wrong (turn_wrong o.table f z).1);
          all = λ q. absurd (apart (sym (turn_wrong o.table f z).0 ∙ q));
        }

-- ---- the loop

-- at a place, with n cells in the table and m late ones
pub record Going (log : Log) (to : ℕ) (b : Bool) (lo hi : ℕ) (c : Cells) (at n : ℕ) (ks vs : List ℕ) (m : ℕ) (s v : List ℕ) : Type 0 where
  pub within : at ≤ to
  pub above : lo < hi
  pub below : hi ≤ p
  pub lent : Lent ks vs s v
  pub half : hi < p → length ks / 2 ≤ n
  pub on : (rs : List Record) → Walk log 0 to rs → Onward log to b lo hi c rs at (cells n ks vs) (cells m s v)

pub going_start : {log : Log} {to : ℕ} (b : Bool) {lo : ℕ} (c : Cells) {ks vs s v : List ℕ} → lo < p → Lent ks vs s v → Going log to b lo p c 0 0 ks vs 0 s v
going_start b {lo} c h l =
    record { within = omega arith; above = h; below = omega arith; lent = l; half = λ z. absurd (omega arith); on = λ rs w. onward-none b lo p c l w }

-- with room for one cell more
pub record Readied (log : Log) (to : ℕ) (b : Bool) (lo hi : ℕ) (c : Cells) (at n : ℕ) (ks vs : List ℕ) (m : ℕ) (s v : List ℕ) : Type 0 where
  pub going : Going log to b lo hi c at n ks vs m s v
  pub cells : Paired (cells n ks vs) (cells m s v)
  pub late : m < length s
  pub room : n + m < length ks

made_half : {y hi n n2 a b : ℕ} → (y < hi → a / 2 ≤ n2) → (y ≡ hi → n ≤ n2) → (hi < p → a / 2 ≤ n) → y ≤ hi → b ≡ a → y < p → b / 2 ≤ n2
made_half {y} {hi} {n} {n2} {a} {b} f g h l e z = go (ltb y hi) refl
  where
    go : (t : Bool) → ltb y hi ≡ t → b / 2 ≤ n2
    go true q = rw e (f (ltb-true y hi q))
    go false q =
        let k : y ≡ hi = omega (arith, ltb-false y hi q) in
        let x : hi < p = omega arith in
        rw e (omega (arith, g k, h x))

pub going_made : {log : Log} {to : ℕ} {b : Bool} {lo hi : ℕ} {c : Cells} {at n : ℕ} {ks vs : List ℕ} {m : ℕ} {s v : List ℕ} {n2 : ℕ} {ks2 vs2 : List ℕ} {m2 y : ℕ} →
    Walked log to → Going log to b lo hi c at n ks vs m s v → Makes (cells n ks vs) (cells m s v) hi (cells n2 ks2 vs2) m2 y → Readied log to b lo y c at n2 ks2 vs2 m2 s v
going_made {n = n} {ks} {vs} {s = s} {v} w g k =
    let o = g.on w.records w.walk in
    let r = table_made o.table k g.above g.lent.two g.lent.some in
    record {
      going =
          record {
            within = g.within;
            above = r.above;
            below = omega (arith, r.below, g.below);
            lent = record { two = omega (arith, r.same, g.lent.two); pair = r.table.cells.table.pair; some = g.lent.some; late = g.lent.late };
            half = λ z. made_half r.half r.more g.half r.below r.same z;
            on = λ rs q. let x = g.on rs q in onward_made x (table_made x.table k g.above g.lent.two g.lent.some);
          };
      cells = r.table.cells;
      late = r.late;
      room = r.room;
    }

pub going_next : {log : Log} {to : ℕ} {b : Bool} {lo hi : ℕ} {c : Cells} {at n : ℕ} {ks vs : List ℕ} {m : ℕ} {s v : List ℕ} {w : Bool} {n2 : ℕ} {ks2 vs2 : List ℕ} {m2 : ℕ} {s2 v2 : List ℕ} →
    (h : Frame) → Headed log at (RecordHead h) → Walked log to → at < to → (r : Readied log to b lo hi c at n ks vs m s v) →
    Touches b lo hi c (cells n ks vs) (cells m s v) (record_at log at (kind_number h.kind)) w (cells n2 ks2 vs2) (cells m2 s2 v2) → w ≡ false → n2 ≡ n →
    length ks2 ≡ length ks → length vs2 ≡ length vs → length s2 ≡ length s → length v2 ≡ length v → Going log to b lo hi c (at + h.size + 2) n2 ks2 vs2 m2 s2 v2
going_next h g q i r t z a d e f k =
    let x = r.going.on q.records q.walk in
    let y = next x h g q.ends i in
    record {
      within = omega (arith, y.fits);
      above = r.going.above;
      below = r.going.below;
      lent = record { two = omega (arith, r.going.lent.two); pair = omega (arith, r.going.lent.pair); some = omega (arith, r.going.lent.some); late = omega (arith, r.going.lent.late) };
      half = λ z. rw (a, d) (r.going.half z);
      on = λ rs w. onward-next (r.going.on rs w) h g q.ends i t z r.late r.room;
    }

-- ---- the late cells merged

pub gathers-settled : {log : Log} {to : ℕ} {b : Bool} {lo hi : ℕ} {c : Cells} {end : ℕ} {t : Cells} {m : ℕ} {s v : List ℕ} {d : Cells} →
    Walked log to → Gathers log to b lo hi c end t (cells m s v) → d.count ≡ t.count + m → Merged t (cells m s v) d → Gathers log to b lo hi c end d (cells 0 s v)
gathers-settled {lo = lo} {hi} {t = t} {m} {s} {v} {d} w g e k =
    let o = (g.gathered w.records w.walk).table.cells in
    let n : length d.addresses ≡ length t.addresses = rw k.is (settled-length o) in
    record {
      above = g.above;
      below = g.below;
      within = g.within;
      half = λ z. rw n (omega (arith, g.half z));
      gathered =
          λ rs q.
          let x = g.gathered rs q in
          let y = x.table.cells in
          record {
            done = x.done;
            rest = x.rest;
            joined = x.joined;
            walk = x.walk;
            table = rw k.is (table-settled y s v y.late.pair x.table);
            right = x.right;
            stop = x.stop;
            all = x.all;
          };
    }
