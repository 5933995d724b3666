-- What was scanned and decided is what replay answers.
use mathlib.Core.Path.{◌≡◌, ◌∙◌}
use mathlib.Core.List.{List, [], ◌∷◌, ◌++◌, append_assoc}
use Prim.Native.Nat.{ℕ, ◌≤◌}
use native.Mathlib.Omega.{arith}
use lib.ListN.{length}
use Rattle.machine.specs.Records.{Record, Parsed}
use Rattle.replay.specs.Replay.{Built, goes, bad, fine}
use Rattle.replay.specs.LastWrite.{wrote_all}
use Rattle.replay_scan.specs.Walk.{Log, parse_at, Walk}
use Rattle.replay_scan.specs.Scan.{rest_of, Rests, Ends, at_end, at_break, at_stop, at_fault, at_over}
use Rattle.replay_scan.specs.Scan as S
use Rattle.replay_group.specs.Decided.{Decided, passes, at_read, at_write}
use Rattle.replay.proofs.Verdicts.{Reads, All}
use Rattle.replay.proofs.Verdicts as W
use Rattle.replay.proofs.Bytes.{replay_from}
use Rattle.replay.proofs.Strip.{strip}
use Rattle.replay_calls.proofs.Joined.{Worded, fit, fit_over, over, Refuses, refuse_read, walk_on, walk_refused, ends_well, ends-bad}

-- ---- rows in two parts

-- before a record of the row
record Parted (j : ℕ) (x z : Built) (rs : List Record) (r : Record) (ss : List Record) (n : ℕ) : Type 0 where
  mid : Built
  first : Rests j x rs mid 0
  second : Rests j mid (r ∷ ss) z n

rests-part : {j n : ℕ} {x z : Built} (rs : List Record) (r : Record) (ss : List Record) → Rests j x (rs ++ r ∷ ss) z n → Parted j x z rs r ss n
rests-part {x = x} [] r ss h = record { mid = x; first = S.none; second = h }
rests-part (q ∷ []) r ss (S.more e u h) =
    let k = rests-part [] r ss h in
    record { mid = k.mid; first = S.more e u k.first; second = k.second }
rests-part (q ∷ y ∷ rs) r ss (S.more e u h) =
    let k = rests-part (y ∷ rs) r ss h in
    record { mid = k.mid; first = S.more e u k.first; second = k.second }

-- its first record goes on
record First (j : ℕ) (x : Built) (r : Record) : Type 0 where
  then : Built
  on : rest_of j x r ≡ goes then

rests-first : {j n : ℕ} {x z : Built} {r : Record} {rs : List Record} → Rests j x (r ∷ rs) z n → First j x r
rests-first (S.more {c = c} e u h) = record { then = c; on = e }
rests-first (S.last {c = c} e u i) = record { then = c; on = e }

-- its first records
record Front (j : ℕ) (x : Built) (rs : List Record) : Type 0 where
  mid : Built
  number : ℕ
  rests : Rests j x rs mid number

rests-front : {j n : ℕ} {x z : Built} (rs ss : List Record) → Rests j x (rs ++ ss) z n → Front j x rs
rests-front {x = x} [] ss h = record { mid = x; number = 0; rests = S.none }
rests-front (q ∷ []) ss (S.more {c = c} e u h) = record { mid = c; number = 0; rests = S.more e u S.none }
rests-front (q ∷ []) [] (S.last {c = c} {n = n} e u i) = record { mid = c; number = n; rests = S.last e u i }
rests-front (q ∷ y ∷ rs) ss (S.more e u h) = let k = rests-front (y ∷ rs) ss h in record { mid = k.mid; number = k.number; rests = S.more e u k.rests }

all-part : {P : Record → Type 0} (rs ss : List Record) → All P (rs ++ ss) → All P rs
all-part [] ss h = W.none
all-part (r ∷ rs) ss (W.more q h) = W.more q (all-part rs ss h)

refuses-more : {j n : ℕ} {o : Built} (rs ss : List Record) → Refuses j o rs n → Refuses j o (rs ++ ss) n
refuses-more rs ss h = record { done = h.done; rest = h.rest ++ ss; one = h.one; stand = h.stand; joined = rw h.joined (append_assoc h.done (h.one ∷ h.rest) ss); reads = h.reads; says = h.says }

-- ---- what is scanned and decided

-- the scan's row has nothing behind it, or it ended behind a RAM read too many
data Pending (j : ℕ) (b : Built) (t : Parsed) : ℕ → ℕ → Type 0 where
  nothing : {n : ℕ} → Ends j b t 0 n → Pending j b t 0 n
  too_many : {n : ℕ} → (n ≡ 0 → ⊥) → Pending j b t n n

pending : {j : ℕ} {b : Built} {t : Parsed} {m n : ℕ} → Ends j b t m n → Pending j b t m n
pending (at_end e) = nothing (at_end e)
pending (at_break e) = nothing (at_break e)
pending (at_stop e f) = nothing (at_stop e f)
pending (at_fault e f) = nothing (at_fault e f)
pending (at_over e) = too_many e

-- the opening o, the scan's records rs of a log up to place `to`, and its stand z there
module _ {log : Log} {j to n m : ℕ} {o z : Built} {rs : List Record} (walk : Walk log 0 to rs) (rests : Rests j o rs z m) (ends : Ends j z (parse_at log to) m n)
    (words : All Worded rs) (pair : length o.cells.addresses ≡ length o.cells.values) (room : o.cells.count ≤ length o.cells.addresses) where
  -- number 0: it is rebuilt
  pub decided_well : {r : ℕ} → Decided o.cells rs n r → r ≡ 0 → replay_from log.revision j o log.bytes ≡ fine (strip (wrote_all o.cells rs) z)
  decided_well (passes h l) e = go (pending ends) rests
    where
      go : {k : ℕ} → Pending j z (parse_at log to) k n → Rests j o rs z k → replay_from log.revision j o log.bytes ≡ fine (strip (wrote_all o.cells rs) z)
      go (nothing x) r = walk_on walk (fit o z o.cells rs W.Reads.none pair r words h l) ∙ ends_well log to j n (wrote_all o.cells rs) z x e
      go (too_many x) r = absurd (x e)
  decided_well (at_read d u q f g w i) e = absurd (omega arith)
  decided_well (at_write d u f g i) e = absurd (omega arith)

  -- another: it is the answer
  pub decided-bad : {r : ℕ} → Decided o.cells rs n r → (r ≡ 0 → ⊥) → replay_from log.revision j o log.bytes ≡ bad r
  decided-bad (passes h l) e = go (pending ends) rests
    where
      go : {k : ℕ} → Pending j z (parse_at log to) k n → Rests j o rs z k → replay_from log.revision j o log.bytes ≡ bad n
      go (nothing x) r = walk_on walk (fit o z o.cells rs W.Reads.none pair r words h l) ∙ ends-bad log to j n (wrote_all o.cells rs) z x e
      go (too_many x) r = walk_refused walk (fit_over o z o.cells rs x W.Reads.none pair r words h l)
  decided-bad (at_read d u q f g w i) e =
      let k = rests-part d q u (rw f at rests) in
      let a = all-part d (q ∷ u) (rw f at words) in
      let t = fit o k.mid o.cells d W.Reads.none pair k.first a g i in
      let v = rests-first k.second in
      walk_refused walk (rw (← f) at (refuse_read k.mid v.then (wrote_all o.cells d) q u t pair v.on w))
  decided-bad (at_write d u f g i) e =
      let k = rests-front d u (rw f at rests) in
      let a = all-part d u (rw f at words) in
      let t = over o k.mid o.cells d W.Reads.none pair k.rests a g room i in
      walk_refused walk (rw (← f) at (refuses-more d u t))
