-- How a scan of a log goes on from record to record, and ends. Assumes nothing.
use mathlib.Core.Path.{◌≡◌, refl, sym, ◌∙◌}
use mathlib.Core.Bool.{Bool, true, false}
use mathlib.Core.List.{List, [], ◌∷◌, ◌++◌}
use Prim.Native.Nat.{ℕ, ◌+◌, ◌≤◌}
use native.Mathlib.Omega.{arith}
use lib.ListN.{length}
use Rattle.machine.specs.Ram.{Cells}
use Rattle.machine.specs.Records.{Record, other, timed, stack, ram}
use Rattle.std.specs.Prelude.{◌||◌, Option, Some, None}
use Rattle.machine_log.specs.Kinds.{kind_number}
use Rattle.replay_scan.specs.declared.record.Frame.{Frame}
use Rattle.replay_scan.specs.declared.record.Head.TheVariants.{End, Broken, Record as RecordHead}
use Rattle.replay_scan.specs.declared.fault.Fault.{Fault}
use Rattle.replay_scan.specs.declared.fault.Fault.TheVariants.{Malformed, TooMany}
use Rattle.replay_scan.specs.declared.counts.Counts.{Counts}
use Rattle.replay_scan.specs.declared.scan.Turn.{Turn}
use Rattle.replay.specs.Replay.{Built, built, tally, started, goes}
use Rattle.replay_scan.specs.FaultView.{fault_number, fault_or_0}
use Rattle.replay_scan.specs.CountsView.{tally_of}
use Rattle.replay_scan.specs.RecordView.{record_at, headed, Headed}
use Rattle.replay_scan.specs.Walk.{Log, parse_at, Walk}
use Rattle.replay_scan.specs.Scan.{rest_of, over45, Rests, Fine, Fines, ram_in, Ends, at_end, at_break, at_stop, at_fault, at_over, Scanned}
use Rattle.replay_scan.specs.ScanView.{ended_by, Goes, Ended}
use Rattle.replay.proofs.Verdicts.{All}
use Rattle.replay_scan.proofs.Walks.{walk-append}
use Rattle.replay_scan.proofs.Heads.{head_record}

pub fines-all : {rs : List Record} → Fines rs → All Fine rs
fines-all Fines.none = All.none
fines-all (Fines.more h k) = All.more h (fines-all k)

fines-append : {rs : List Record} {r : Record} → Fines rs → Fine r → Fines (rs ++ (r ∷ []))
fines-append Fines.none h = Fines.more h Fines.none
fines-append (Fines.more k l) h = Fines.more k (fines-append l h)

pub rests-append : {j : ℕ} {b c d : Built} {rs : List Record} (r : Record) → Rests j b rs c 0 → rest_of j c r ≡ goes d → over45 c.counts r ≡ 0 → Rests j b (rs ++ (r ∷ [])) d 0
rests-append r Rests.none e o = Rests.more e o Rests.none
rests-append r (Rests.more f q h) e o = Rests.more f q (rests-append r h e o)
rests-append r (Rests.last f q n) e o = absurd (n refl)

-- and a RAM read too many
rests_over : {j n : ℕ} {b c d : Built} {rs : List Record} (r : Record) → Rests j b rs c 0 → rest_of j c r ≡ goes d → over45 c.counts r ≡ n → (n ≡ 0 → ⊥) → Rests j b (rs ++ (r ∷ [])) d n
rests_over r Rests.none e o m = Rests.last e o m
rests_over r (Rests.more f q h) e o m = Rests.more f q (rests_over r h e o m)
rests_over r (Rests.last f q n) e o m = absurd (n refl)

ram-append : (rs : List Record) (r : Record) → ram_in (rs ++ (r ∷ [])) ≡ ram_in rs + ram_in (r ∷ [])
unfolding ram_in
ram-append [] r = omega arith
ram-append (other k s ∷ rs) r = ram-append rs r
ram-append (timed k t s ∷ rs) r = ram-append rs r
ram-append (stack t q d v ∷ rs) r = ram-append rs r
ram-append (ram t a v d ∷ rs) r = omega (arith, ram-append rs r)

-- a scan of the log up to a place, with the stack slice s before and `words` now; no record of RAM so far where `some` is false
pub record Going (log : Log) (s : List ℕ) (j at : ℕ) (n : Counts) (depth : ℕ) (some : Bool) (words : List ℕ) : Type 0 where
  pub records : List Record
  pub walk : Walk log 0 at records
  pub fine : Fines records
  pub quiet : some ≡ false → ram_in records ≡ 0
  pub rests : (c : Cells) → Rests j (started s c) records (built (tally_of n) depth words c) 0

pub going_start : (log : Log) (s : List ℕ) (j : ℕ) (n : Counts) → tally_of n ≡ tally 0 0 0 0 → Going log s j 0 n 16 false s
unfolding ram_in
going_start log s j n e = record { records = []; walk = Walk.none; fine = Fines.none; quiet = λ e. refl; rests = λ c. rw e Rests.none }

either : {a b c : Bool} → c ≡ (a || b) → c ≡ false → (a ≡ false) × (b ≡ false)
either {a = false} e f = (refl, sym e ∙ f)
either {a = true} e f = (sym e ∙ f, let z : ◌≡◌ {A = Bool} true false = sym e ∙ f in let y : ◌≡◌ {A = ℕ} 0 1 = cc in absurd (omega arith))

module _ {log : Log} {s words : List ℕ} {j at : ℕ} {n : Counts} {depth : ℕ} {some : Bool} (go : Going log s j at n depth some words) where
  -- it ends where no record stands
  module _ (inside : at ≤ length log.bytes) where
    stopped : {r : Option Fault} → ((c : Cells) → Ends j (built (tally_of n) depth words c) (parse_at log at) 0 (fault_or_0 r)) → Scanned log s j words (record { fault = r; end = at; depth = depth; ram = some })
    stopped e =
        record {
          records = go.records;
          counts = tally_of n;
          over = 0;
          walk = go.walk;
          inside = inside;
          fine = go.fine;
          quiet = go.quiet;
          rests = go.rests;
          ends = e;
        }

    pub scan_end : Headed log at End → Scanned log s j words (record { fault = None; end = at; depth = depth; ram = some })
    unfolding headed
    scan_end h = stopped (λ c. at_end (sym h.is))

    pub scan_broken : Headed log at Broken → Scanned log s j words (record { fault = Some Malformed; end = at; depth = depth; ram = some })
    unfolding headed
    scan_broken h = stopped (λ c. at_break (sym h.is))

    -- or before a record
    pub scan_off : {after : List ℕ} {f : Frame} (e : Option Fault) → Headed log at (RecordHead f) → Ended j n depth words (record_at log at (kind_number f.kind)) after e →
        Scanned log s j after (record { fault = e; end = at; depth = depth; ram = some })
    scan_off {after} {f} e h o = rw o.kept (stopped (λ c. why e c (o.is c)))
      where
        why : (e : Option Fault) (c : Cells) → rest_of j (built (tally_of n) depth words c) (record_at log at (kind_number f.kind)) ≡ ended_by e → Ends j (built (tally_of n) depth words c) (parse_at log at) 0 (fault_or_0 e)
        why None c q = at_stop (head_record log at f h) q
        why (Some e) c q = at_fault {n = fault_number e} (head_record log at f h) q

  -- or goes on
  module _ {after : List ℕ} {r : Turn} {f : Frame} (h : Headed log at (RecordHead f)) (turn : Goes j n depth words (record_at log at (kind_number f.kind)) after r) (next : Bool) (next-is : next ≡ (some || r.ram)) where
    walk_here : Walk log 0 (at + f.size + 2) (go.records ++ (record_at log at (kind_number f.kind) ∷ []))
    walk_here = let k : at + (f.size + 2) ≡ at + f.size + 2 = omega arith in rw (sym k) (walk-append (f.size + 2) go.walk (head_record log at f h) (omega arith))

    quiet_here : next ≡ false → ram_in (go.records ++ (record_at log at (kind_number f.kind) ∷ [])) ≡ 0
    quiet_here q = let z = either next-is q in ram-append go.records _ ∙ rw (go.quiet z.0, turn.quiet z.1)

    pub scan_goes : (m : Counts) → r.counts ≡ Some m → Going log s j (at + f.size + 2) m r.depth next after
    scan_goes m e =
        let b = rw e at turn.behind in
        record {
          records = go.records ++ (record_at log at (kind_number f.kind) ∷ []);
          walk = walk_here;
          fine = fines-append go.fine turn.fine;
          quiet = quiet_here;
          rests = λ c. rests-append _ (go.rests c) (turn.is c ∙ rw b.1) b.0;
        }

    pub scan_over : r.counts ≡ None → Scanned log s j after (record { fault = Some TooMany; end = at + f.size + 2; depth = r.depth; ram = next })
    scan_over e =
        record {
          records = go.records ++ (record_at log at (kind_number f.kind) ∷ []);
          counts = turn.tally;
          over = 45;
          walk = walk_here;
          inside = h.whole.fits;
          fine = fines-append go.fine turn.fine;
          quiet = quiet_here;
          rests = λ c. rests_over _ (go.rests c) (turn.is c) (rw e at turn.behind) (λ z. omega arith);
          ends = λ c. at_over (λ z. omega arith);
        }
