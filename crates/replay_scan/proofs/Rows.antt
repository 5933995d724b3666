-- The fields of a record, read where they stand in the log.
use mathlib.Core.Path.{◌≡◌, ap, ◌∙◌}
use mathlib.Core.List.{List}
use Prim.Native.Nat.{ℕ, ◌+◌, ◌≤◌, ◌<◌}
use native.Mathlib.Omega.{arith}
use mathlib.Core.Bool.{Bool, true, false}
use borrow.Author.Tests.{ne_eqb, lt-ltb}
use lib.Dec.{eqb}
use Rattle.choices.specs.Choice.{cond}
use lib.ListN.{take, drop, get_or}
use lib.Seq.{drop-drop, get_or-take, get_or-drop}
use Rattle.machine.specs.Bytes.{number_of}
use Rattle.machine.specs.Records.{timed, stack, ram, length_of, record_of}
use Rattle.replay.proofs.FieldBytes.{window}
use Rattle.replay_scan.specs.RecordView.{number_at, OfTimed}
use Rattle.replay_scan.specs.Walk.{Log}

number_in : (m n k : ℕ) (s : List ℕ) (at : ℕ) → m + n ≤ k → number_of (take n (drop m (take k (drop at s)))) ≡ number_at s (at + m) n
unfolding number_at
number_in m n k s at h = ap number_of (window m n k (drop at s) h ∙ ap (take n) (drop-drop m at s))

byte_in : (m k : ℕ) (s : List ℕ) (at : ℕ) → m < k → get_or (take k (drop at s)) m 0 ≡ get_or s (at + m) 0
byte_in m k s at h = get_or-take k (drop at s) m 0 h ∙ get_or-drop at s m 0

pub stack-row : (s : List ℕ) (at c q d v : ℕ) → c ≡ number_at s (at + 4) 4 → q ≡ number_at s (at + 8) 8 → d ≡ get_or s (at + 16) 0 → v ≡ number_at s (at + 17) 8 →
    record_of 4 (take 25 (drop at s)) ≡ stack c q d v
unfolding record_of
stack-row s at c q d v e f g h =
    rw (e, f, g, h)
    (λ i. stack (number_in 4 4 25 s at (omega arith) i) (number_in 8 8 25 s at (omega arith) i) (byte_in 16 25 s at (omega arith) i) (number_in 17 8 25 s at (omega arith) i))

pub ram-row : (s : List ℕ) (at c q d v : ℕ) → c ≡ number_at s (at + 4) 4 → q ≡ number_at s (at + 8) 8 → v ≡ number_at s (at + 16) 8 → d ≡ get_or s (at + 24) 0 →
    record_of 5 (take 25 (drop at s)) ≡ ram c q v d
unfolding record_of
ram-row s at c q d v e f g h =
    rw (e, f, g, h)
    (λ i. ram (number_in 4 4 25 s at (omega arith) i) (number_in 8 8 25 s at (omega arith) i) (number_in 16 8 25 s at (omega arith) i) (byte_in 24 25 s at (omega arith) i))

pub timed-row : (s : Log) (at kind c : ℕ) → 5 < kind → 8 ≤ length_of s.revision kind + 2 → c ≡ number_at s.bytes (at + 4) 4 → OfTimed s at kind c
unfolding record_of
timed-row s at kind c h l e =
    let x : kind ≡ 4 → ⊥ = λ z. omega arith in
    let y : kind ≡ 5 → ⊥ = λ z. omega arith in
    record {
      fields = drop 8 (take (length_of s.revision kind + 2) (drop at s.bytes));
      is = rw (ne_eqb kind 4 x, ne_eqb kind 5 y, lt-ltb 5 kind h, e) (λ i. timed kind (number_in 4 4 (length_of s.revision kind + 2) s.bytes at l i) (drop 8 (take (length_of s.revision kind + 2) (drop at s.bytes))));
    }

-- a record with a clock has one
pub timed_long : (v kind : ℕ) → 5 < kind → 0 < length_of v kind → 8 ≤ length_of v kind + 2
unfolding length_of
timed_long v kind h l =
    let a : kind ≡ 1 → ⊥ = λ z. omega arith in
    let b : kind ≡ 4 → ⊥ = λ z. omega arith in
    let c : kind ≡ 5 → ⊥ = λ z. omega arith in
    let d : kind ≡ 2 → ⊥ = λ z. omega arith in
    let e : kind ≡ 3 → ⊥ = λ z. omega arith in
    go (eqb v 2) (eqb kind 6) (eqb kind 7) (rw (ne_eqb kind 1 a, ne_eqb kind 4 b, ne_eqb kind 5 c, ne_eqb kind 2 d, ne_eqb kind 3 e) at l) (λ f. rw (ne_eqb kind 1 a, ne_eqb kind 4 b, ne_eqb kind 5 c, ne_eqb kind 2 d, ne_eqb kind 3 e) f)
  where
    go : (x y z : Bool) → 0 < cond x (cond y 776 (cond z 24 0)) 0 → (8 ≤ cond x (cond y 776 (cond z 24 0)) 0 + 2 → 8 ≤ length_of v kind + 2) → 8 ≤ length_of v kind + 2
    go true true z m f = f (omega arith)
    go true false true m f = f (omega arith)
    go true false false m f = absurd (omega arith)
    go false y z m f = absurd (omega arith)
