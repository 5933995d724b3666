-- What two sweeps say of the records, from which the call decides; and what the call then gives. Assumes nothing.
use mathlib.Core.Path.{◌≡◌, refl, sym, ◌∙◌}
use mathlib.Core.Bool.{false}
use mathlib.Core.List.{List, [], ◌∷◌, ◌++◌, append_assoc, append-nil}
use Prim.Native.Nat.{ℕ, ◌+◌, ◌-◌, ◌≤◌, ◌<◌}
use native.Mathlib.Omega.{arith}
use borrow.Author.Tests.{ne_eqb, eqb-true}
use lib.ListN.{length, replicate}
use lib.Dec.{eqb}
use Rattle.machine.specs.declared.refusal.PlaceA.{PlaceA}
use Rattle.machine.specs.Refusal.{number_a}
use Rattle.machine.proofs.Refused.{number_a_some}
use Rattle.replay_calls.specs.declared.refusal.Refusal.TheVariants.{Lent}
use Rattle.machine.specs.Words.{p}
use Rattle.machine.specs.Ram.{Cells}
use Rattle.machine.specs.Records.{Record}
use Rattle.replay_group.specs.declared.group.Sweep.{Sweep}
use Rattle.replay_scan.specs.declared.scan.Scan.{Scan}
use Rattle.std.specs.Prelude.{Ok, Err, Result, IsErrAnd}
use Rattle.replay_scan.specs.declared.fault.Fault.{Fault}
use Rattle.replay_scan.specs.FaultView.{fault_number, fault_or_0}
use Rattle.replay_table.specs.declared.table.Table.{Table as LentTable}
use Rattle.replay_calls.specs.declared.refusal.Refusal.{Refusal}
use Rattle.replay_calls.specs.declared.refusal.Refusal.TheVariants.{Log as LogRefusal}
use Rattle.replay_scan.proofs.ScanLaws.{fault_some}
use Rattle.replay.specs.Replay.{started, Went, bad, finished, replay_a, replay_of}
use Rattle.replay_scan.specs.Walk.{Log, log_of, Walk, Walked}
use Rattle.replay_table.specs.Group.{Right, RightAt, WrongAt, Stop, at_end, at_wrong, cells_in}
use Rattle.replay_table.specs.Merge.{Sorted}
use Rattle.replay_table.specs.Group as G
use Rattle.replay_group.specs.GroupView.{Sweeps}
use Rattle.replay_scan.specs.Scan.{Scanned, Fine, Fines, of_other, is_of_timed, is_of_stack, is_of_ram}
use Rattle.replay_scan.specs.Scan as S
use Rattle.replay_group.specs.WriteView.{Fitting, Written}
use Rattle.replay_group.specs.Decided.{Decided, passes, at_read, at_write, Decides, LeftIn, Scans, Rebuilds}
use Rattle.replay_calls.specs.ReplayView.{replayed_by}
use Rattle.replay.proofs.Verdicts.{All}
use Rattle.replay.proofs.Verdicts as W
use Rattle.replay.proofs.Bytes.{replay_from}
use Rattle.replay_scan.proofs.Walks.{walk_same}
use Rattle.replay_scan.proofs.WalkLaws.{walk-place}
use Rattle.replay_table.proofs.GroupLaws.{apart}
use Rattle.replay_calls.proofs.PlaceALaws.{accepted}
use Rattle.replay_calls.proofs.Joined.{Worded, worded_other, worded_timed, worded_stack, worded_ram}
use Rattle.replay_calls.proofs.Decisions.{decided_well, decided-bad}

-- ---- two sweeps

-- a row of right records has no wrong one
not-both : {lo hi : ℕ} {c : Cells} {done : List Record} {r : Record} → RightAt lo hi c done r → WrongAt lo hi c done r → ⊥
not-both (G.of_outside e) (WrongAt.of_read f n) = apart (sym f ∙ e)
not-both (RightAt.of_read e) (WrongAt.of_read f n) = n e
not-both G.of_other n = elim n [ ]
not-both G.is_of_timed n = elim n [ ]
not-both G.is_of_stack n = elim n [ ]
not-both G.of_write n = elim n [ ]

right-at : {lo hi : ℕ} {c : Cells} (done xs : List Record) (r : Record) (rs : List Record) → Right lo hi c done (xs ++ r ∷ rs) → RightAt lo hi c (done ++ xs) r
right-at done [] r rs (G.more h k) = rw (append-nil done) h
right-at done (x ∷ xs) r rs (G.more h k) = rw (← append_assoc done (x ∷ []) xs) (right-at (done ++ (x ∷ [])) xs r rs k)

-- right records, and a wrong read behind them
pub record Short (log : Log) (c : Cells) (rs : List Record) (end : ℕ) : Type 0 where
  pub done : List Record
  pub one : Record
  pub rest : List Record
  pub walk : Walk log 0 end done
  pub joined : rs ≡ done ++ one ∷ rest
  pub right : Right 0 p c [] done
  pub wrong : WrongAt 0 p c done one

module _ {log : Log} {to : ℕ} {c : Cells} {t : LentTable} {rs : List Record} {r : Sweep} (long : to ≤ length log.bytes) (walk : Walk log 0 to rs) (sweep : Sweeps log to c t r) where
  -- it came to its end
  pub whole : r.end ≡ to → Right 0 p c [] rs × (r.cells ≡ cells_in 0 p c [] rs)
  whole e =
      let s = sweep.swept rs walk in
      let d : rs ≡ s.done = walk_same walk (rw (← e) s.walk) in
      (rw d s.came.right, s.takes e)

  -- it met a wrong read
  pub short : (r.end ≡ to → ⊥) → Short log c rs r.end
  short n = let s = sweep.swept rs walk in go s.done s.walk s.came.rest s.came.joined s.came.right s.came.stop
    where
      go : (done : List Record) → Walk log 0 r.end done → (rest : List Record) → rs ≡ done ++ rest → Right 0 p c [] done → Stop 0 p c done rest → Short log c rs r.end
      go done w [] j h at_end =
          let e : rs ≡ done = j ∙ append-nil done in
          absurd (n (walk-place (omega (arith, sweep.within)) long w (rw (← e) walk)))
      go done w (x ∷ xs) j h (at_wrong i) = record { done = done; one = x; rest = xs; walk = w; joined = j; right = h; wrong = i }

  -- right records have no wrong read, so it comes to its end
  pub again : Right 0 p c [] rs → r.cells ≡ cells_in 0 p c [] rs
  again h = let s = sweep.swept rs walk in go s.done s.walk s.came.rest s.came.joined s.came.stop s.takes
    where
      go : (done : List Record) → Walk log 0 r.end done → (rest : List Record) → rs ≡ done ++ rest → Stop 0 p c done rest → (r.end ≡ to → r.cells ≡ cells_in 0 p c [] rs) → r.cells ≡ cells_in 0 p c [] rs
      go done w [] j at_end t =
          let e : rs ≡ done = j ∙ append-nil done in
          t (walk-place (omega (arith, sweep.within)) long w (rw (← e) walk))
      go done w (x ∷ xs) j (at_wrong i) t = absurd (not-both (right-at [] done x xs (rw j at h)) i)

-- the records before its end
pub walked_again : {log : Log} {to : ℕ} {c : Cells} {t : LentTable} {r : Sweep} → Walked log to → Sweeps log to c t r → Walked log r.end
walked_again w h =
    let s = h.swept w.records w.walk in
    record { records = s.done; walk = s.walk; ends = omega (arith, h.within, w.ends) }

-- ---- the decision

module _ {log : Log} {to number room : ℕ} {c : Cells} {t : LentTable} {r : Sweep} (long : to ≤ length log.bytes) (sweep : Sweeps log to c t r) (used : c.count ≤ length c.addresses) (left : room ≡ length c.addresses - c.count) where
  pub decide_full : r.end ≡ to → room < r.cells → Decides log to number c 44
  decide_full e h =
      record {
        decided =
            λ rs w.
            let k = whole long w sweep e in
            at_write rs [] (sym (append-nil rs)) k.0 (omega (arith, k.1));
      }

  pub decide_all : r.end ≡ to → r.cells ≤ room → Decides log to number c number
  decide_all e h =
      record {
        decided =
            λ rs w.
            let k = whole long w sweep e in
            passes k.0 (omega (arith, k.1));
      }

  module _ {u : LentTable} {q : Sweep} (second : Sweeps log r.end c u q) (n : r.end ≡ to → ⊥) where
    pub decide_room : room < q.cells → Decides log to number c 44
    decide_room h =
        record {
          decided =
              λ rs w.
              let k = short long w sweep n in
              let i = again (omega (arith, sweep.within)) k.walk second k.right in
              at_write k.done (k.one ∷ k.rest) k.joined k.right (omega arith);
        }

    pub decide_read : q.cells ≤ room → Decides log to number c 43
    decide_read h =
        record {
          decided =
              λ rs w.
              let k = short long w sweep n in
              let i = again (omega (arith, sweep.within)) k.walk second k.right in
              at_read k.done k.rest k.one k.joined k.right k.wrong (omega arith);
        }

-- ---- the call

words_of : {rs : List Record} → Fines rs → All Worded rs
words_of S.Fines.none = W.none
words_of (S.Fines.more f h) = W.more (one f) (words_of h)
  where
    one : {r : Record} → Fine r → Worded r
    one of_other = worded_other
    one is_of_timed = worded_timed
    one is_of_stack = worded_stack
    one (is_of_ram a v d) = worded_ram a

-- place A refuses it
pub call-refused : (v : ℕ) (log s : List ℕ) (c : Cells) (j : ℕ) (e : PlaceA) (r : Result ℕ Refusal) → number_a e ≡ replay_a v log c s → IsErrAnd r (λ x. x ≡ Lent e) → replayed_by r s c ≡ replay_of v log c s j
unfolding replay_of
call-refused v log s c j e (Ok d) h g = absurd g
call-refused v log s c j e (Err x) h g =
    let z : eqb (replay_a v log c s) 0 ≡ false = ne_eqb (replay_a v log c s) 0 (λ k. omega (arith, number_a_some e, h)) in
    rw (z, g, h)

-- and place A accepts it
pub opens : (v : ℕ) (log s : List ℕ) (c : Cells) → replay_a v log c s ≡ 0 → Sorted c
opens v log s c z =
    let k = (accepted v log c s z).sound in
    record { usable = record { ordered = record { within = k.used; ascending = k.ascending }; values = omega (arith, k.used, k.pair) }; pair = k.pair }

pub scans : {log : Log} {s after : List ℕ} {j : ℕ} {r : Scan} {c : Cells} → Scanned log s j after r → Sorted c → Scans log r.end c
scans h o = record { records = h.records; walk = h.walk; ends = h.inside; fine = h.fine; sorted = o }

-- number 0: the cells that the records take have room
decided-room : {c : Cells} {rs : List Record} {number r : ℕ} → Decided c rs number r → r ≡ 0 → c.count + cells_in 0 p c [] rs ≤ length c.addresses
decided-room (passes h l) e = l
decided-room (at_read d u q f g w m) e = absurd (omega arith)
decided-room (at_write d u f g m) e = absurd (omega arith)

pub fitting : {log : Log} {to number : ℕ} {c : Cells} {r : ℕ} → Scans log to c → Decides log to number c r → r ≡ 0 → Fitting log to c
fitting s d e =
    record { records = s.records; walk = s.walk; ends = s.ends; fine = s.fine; sorted = s.sorted; room = decided-room (d.decided s.records s.walk) e }

module _ (v : ℕ) (log s after : List ℕ) (c : Cells) (j n : ℕ) (scan : Scan) (nothing : replay_a v log c s ≡ 0)
    (scanned : Scanned (log_of v log) s j after scan) (decides : Decides (log_of v log) scan.end (fault_or_0 scan.fault) c n) where
  open_cells : Sorted c
  open_cells = opens v log s c nothing

  whole-answer : (w : Went) → replay_from v j (started s c) log ≡ w → replay_of v log c s j ≡ finished w s c
  unfolding replay_of replay_from
  whole-answer w e = rw (nothing, e)

  -- it is refused, and the stack slice is cleared
  pub call-wrong : (e : Fault) → n ≡ fault_number e → (d : Cells) → d ≡ c → (zeros : List ℕ) → length after ≡ length s → zeros ≡ replicate (length after) 0 →
      replayed_by (Err (LogRefusal e)) zeros d ≡ replay_of v log c s j
  call-wrong e m d q zeros l z =
      let o : zeros ≡ s = z ∙ rw l (sym (accepted v log c s nothing).zeros) in
      let h : n ≡ 0 → ⊥ = λ x. fault_some e (sym m ∙ x) in
      rw (q, whole-answer (bad n) (decided-bad scanned.walk (scanned.rests c) (scanned.ends c) (words_of scanned.fine) open_cells.pair open_cells.usable.ordered.within (decides.decided scanned.records scanned.walk) h), o, m)

  -- it is rebuilt
  pub call-right : n ≡ 0 → (d : Cells) → Written (log_of v log) scan.end c d → replayed_by (Ok scan.depth) after d ≡ replay_of v log c s j
  call-right h d w =
      rw (whole-answer _ (decided_well scanned.walk (scanned.rests c) (scanned.ends c) (words_of scanned.fine) open_cells.pair open_cells.usable.ordered.within (decides.decided scanned.records scanned.walk) h), ← w.is scanned.records scanned.walk)

-- ---- the table that is left

pub left-whole : {log : Log} {to : ℕ} {c : Cells} {t : LentTable} {r : Sweep} → Sweeps log to c t r → r.end ≡ to → LeftIn log to (eqb r.groups 1) t
left-whole {r = r} h e = record { table = λ q rs w. h.whole (eqb-true r.groups 1 q) e rs w }

-- ---- decided and written

pub rebuilt-not : {log : Log} {to number : ℕ} {c : Cells} {r : ℕ} → Decides log to number c r → (r ≡ 0 → ⊥) → Rebuilds log to number c r c
rebuilt-not d h = record { decides = d; written = λ e. absurd (h e); kept = λ _. refl }

pub rebuilt : {log : Log} {to number : ℕ} {c : Cells} {r : ℕ} {d : Cells} → Decides log to number c r → r ≡ 0 → Written log to c d → Rebuilds log to number c 0 d
rebuilt {log} {to} {number} {c} h e w = record { decides = rw e at h; written = λ _. w; kept = λ n. absurd (n refl) }
