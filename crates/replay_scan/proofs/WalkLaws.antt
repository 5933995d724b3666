-- The next record of a walk over a log, and how many records there are at most. Assumes nothing.
use mathlib.Core.Path.{◌≡◌, refl, sym, ap, ◌∙◌}
use mathlib.Core.List.{List, [], ◌∷◌}
use Prim.Native.Nat.{ℕ, ◌+◌, ◌-◌, ◌≤◌, ◌<◌}
use native.Mathlib.Omega.{arith}
use lib.ListN.{length, drop, length-drop}
use Rattle.machine.specs.Records.{Record, length_of, broken, found}
use Rattle.machine_log.specs.Kinds.{kind_number}
use Rattle.replay_scan.specs.RecordView.{record_at, headed, Headed}
use Rattle.replay_scan.specs.declared.record.Frame.{Frame}
use Rattle.replay_scan.specs.declared.record.Head.TheVariants.{Broken, Record as RecordHead}
use Rattle.replay_scan.specs.Walk.{Log, parse_at, Walk, none, more}
use Rattle.replay_scan.proofs.Heads.{head_record}

pub walk_end : {s : Log} {i to : ℕ} {rs : List Record} → Walk s i to rs → to ≤ i → rs ≡ []
walk_end none h = refl
walk_end (more n e p l w) h = absurd (omega arith)

-- a record has a byte at least
pub walk-count : {s : Log} {i to : ℕ} {rs : List Record} → Walk s i to rs → i + length rs ≤ to
walk-count none = omega arith
walk-count (more n e p l w) = let k = walk-count w in omega arith

-- ---- the next record

found-record : (r q : Record) (t u : List ℕ) → found r t ≡ found q u → r ≡ q
found-record r q t u e = cc

found-rest : (r q : Record) (t u : List ℕ) → found r t ≡ found q u → t ≡ u
found-rest r q t u e = cc

no_break : (r : Record) (t : List ℕ) → broken ≡ found r t → ⊥
no_break r t e = let z : ◌≡◌ {A = ℕ} 0 1 = cc in omega arith

-- places from which the same is left
same_place : (s : List ℕ) (a b : ℕ) → a ≤ length s → b ≤ length s → drop a s ≡ drop b s → a ≡ b
same_place s a b h k e =
    let l : length s - a ≡ length s - b = sym (length-drop a s) ∙ ap length e ∙ length-drop b s in
    omega arith

-- records end at one place only
pub walk-place : {s : Log} {i a b : ℕ} {rs : List Record} → a ≤ length s.bytes → b ≤ length s.bytes → Walk s i a rs → Walk s i b rs → a ≡ b
walk-place h k none none = refl
walk-place {s} {i} {b = b} h k (more n {r = r} {rs = rs} e p l w) (more m f o t x) =
    let q : found r (drop (i + n) s.bytes) ≡ found r (drop (i + m) s.bytes) = sym e ∙ f in
    let j : i + n ≡ i + m = same_place s.bytes (i + n) (i + m) (omega arith) (omega arith) (found-rest _ _ _ _ q) in
    let y : Walk s (i + n) b rs = rw j x in
    walk-place h k w y

-- the record that a frame tells of, where a walk has yet to pass it
pub record Next (s : Log) (i to : ℕ) (rs : List Record) (f : Frame) : Type 0 where
  pub sized : f.size ≡ length_of s.revision (kind_number f.kind)
  pub fits : i + f.size + 2 ≤ to
  pub parsed : parse_at s i ≡ found (record_at s i (kind_number f.kind)) (drop (i + (f.size + 2)) s.bytes)
  pub rest : List Record
  pub is : rs ≡ record_at s i (kind_number f.kind) ∷ rest
  pub walk : Walk s (i + f.size + 2) to rest

pub walk-next : {s : Log} {i to : ℕ} {rs : List Record} (f : Frame) → Headed s i (RecordHead f) → to ≤ length s.bytes → i < to → Walk s i to rs → Next s i to rs f
walk-next f g m l none = absurd (omega arith)
walk-next {s} {i} {to} h g m l (more n {r = r} {rs = ts} e p k w) =
    let f = head_record s i h g in
    let q = sym f ∙ e in
    let j : i + (h.size + 2) ≡ i + n = same_place s.bytes (i + (h.size + 2)) (i + n) (omega (arith, g.whole.fits)) (omega arith) (found-rest _ _ _ _ q) in
    let z : i + h.size + 2 ≡ i + n = omega arith in
    record {
      sized = g.whole.sized;
      fits = omega arith;
      parsed = f;
      rest = ts;
      is = ap (λ (x : Record). x ∷ ts) (sym (found-record _ _ _ _ q));
      walk = rw z w;
    }

-- and one stands there
pub walk-not_broken : {s : Log} {i to : ℕ} {rs : List Record} → Headed s i Broken → i < to → Walk s i to rs → ⊥
unfolding headed
walk-not_broken g l none = omega arith
walk-not_broken {s} {i} g l (more n {r = r} e p k w) = no_break r (drop (i + n) s.bytes) (g.is ∙ e)
