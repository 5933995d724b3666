-- The frame of a record at a place of the log.
use mathlib.Core.Path.{◌≡◌, refl, sym, ap, ◌∙◌}
use mathlib.Core.List.{List, [], ◌∷◌}
use mathlib.Core.Logic.{◌⊎◌, inl, inr}
use Prim.Native.Nat.{ℕ, ◌+◌, ◌-◌, ◌/◌, ◌%◌, ◌≤◌, ◌<◌}
use native.Mathlib.Omega.{arith}
use mathlib.Core.Bool.{Bool, true, false}
use borrow.Author.Tests.{lt-ltb, le-ltb, eq-eqb, ne_eqb, ltb-true, ltb-false}
use lib.Dec.{ltb, eqb}
use Rattle.choices.specs.Choice.{cond}
use lib.ListN.{length, take, drop, length-drop, drop_of_length-le}
use lib.Seq.{drop-drop}
use Rattle.machine.specs.Bytes.{number_of}
use Rattle.machine.specs.Records.{length_of, record_of, Parsed, ended, broken, found, framed, parse}
use Rattle.replay_scan.specs.Walk.{Log, parse_at}
use Rattle.machine_log.specs.Kinds.{kind_number}
use Rattle.machine_log.specs.declared.kinds.RecordKind.{RecordKind}
use Rattle.machine_log.specs.declared.kinds.RecordKind.TheVariants.{Stack, Ram}
use Rattle.replay_scan.specs.RecordView.{number_at, record_at, Framed, whole_head, headed, Headed}
use Rattle.replay_scan.specs.declared.record.Frame.{Frame}
use Rattle.replay_scan.specs.declared.record.Head.{Head}
use Rattle.replay_scan.specs.declared.record.Head.TheVariants.{End, Broken, Record as RecordHead}

-- ---- no record

pub head_end : (s : Log) (at : ℕ) → length s.bytes - at ≡ 0 → Headed s at End
unfolding headed parse
head_end s at h = let l : length s.bytes ≤ at = omega arith in record { is = rw (drop_of_length-le s.bytes l); whole = tt }

broken-is : (s : Log) (at : ℕ) → parse_at s at ≡ broken → Headed s at Broken
unfolding headed
broken-is s at e = record { is = sym e; whole = tt }

parse-short : (v : ℕ) (d : List ℕ) → (length d ≡ 0 → ⊥) → length d < 4 → parse v d ≡ broken
unfolding parse
parse-short v [] h k = absurd (h refl)
parse-short v (x ∷ d) h k = rw (lt-ltb (length (x ∷ d)) 4 k)

parse_long : (v : ℕ) (d : List ℕ) → 4 ≤ length d → parse v d ≡ framed v (number_of (take 2 d)) (number_of (take 2 (drop 2 d))) d
unfolding parse
parse_long v [] h = absurd (omega arith)
parse_long v (x ∷ d) h = rw (le-ltb (length (x ∷ d)) 4 h)

pub head_short : (s : Log) (at : ℕ) → (length s.bytes - at ≡ 0 → ⊥) → length s.bytes - at < 4 → Headed s at Broken
head_short s at h k = broken-is s at (parse-short s.revision (drop at s.bytes) (λ e. h (sym (length-drop at s.bytes) ∙ e)) (rw (length-drop at s.bytes) k))

-- 0 at the end alone
told : Parsed → ℕ
told ended = 0
told broken = 1
told (found r t) = 1

told-cond : (t : Bool) (a b : Parsed) → told a ≡ 1 → told b ≡ 1 → told (cond t a b) ≡ 1
told-cond true a b h k = h
told-cond false a b h k = k

told-framed : (v n k : ℕ) (b : List ℕ) → told (framed v n k b) ≡ 1
unfolding framed told
told-framed v n k b = told-cond (eqb (length_of v k) 0) broken _ refl (told-cond (eqb n (length_of v k)) (cond (ltb (length b) (n + 2)) broken (found (record_of k (take (n + 2) b)) (drop (n + 2) b))) broken (told-cond (ltb (length b) (n + 2)) broken (found (record_of k (take (n + 2) b)) (drop (n + 2) b)) refl refl) refl)

told-parse : (v : ℕ) (d : List ℕ) → told (parse v d) ≡ 0 → length d ≡ 0
unfolding parse told
told-parse v [] e = refl
told-parse v (x ∷ d) e = let k = told-cond (ltb (length (x ∷ d)) 4) broken (framed v (number_of (take 2 (x ∷ d))) (number_of (take 2 (drop 2 (x ∷ d)))) (x ∷ d)) refl (told-framed v _ _ (x ∷ d)) in absurd (omega (arith, k, e))

-- before the end of the log what is no record is no whole one
pub head_broken : (s : Log) (at : ℕ) (h : Head) → at < length s.bytes → Headed s at h → (h ≡ End) ⊎ (h ≡ Broken) → Headed s at Broken
unfolding headed told
head_broken s at h l e (inr k) = rw k at e
head_broken s at h l e (inl k) =
    let g = rw k at e in
    let z : length s.bytes - at ≡ 0 = sym (length-drop at s.bytes) ∙ told-parse s.revision (drop at s.bytes) (ap told (sym g.is)) in
    absurd (omega arith)

-- ---- length and kind

module _ (s : Log) (at frame : ℕ) (long : 4 ≤ length s.bytes - at) (is : Framed s.bytes at frame) where
  here : parse_at s at ≡ framed s.revision (frame % 65536) (frame / 65536) (drop at s.bytes)
  unfolding number_at
  here = rw (is.size, is.kind, ← drop-drop 2 at s.bytes) (parse_long s.revision (drop at s.bytes) (rw (length-drop at s.bytes) long))

  pub head_kind : length_of s.revision (frame / 65536) ≡ 0 → Headed s at Broken
  unfolding framed
  head_kind h = broken-is s at (here ∙ rw h)

  module _ (known : length_of s.revision (frame / 65536) ≡ 0 → ⊥) where
    pub head_size : (frame % 65536 ≡ length_of s.revision (frame / 65536) → ⊥) → Headed s at Broken
    unfolding framed
    head_size k = broken-is s at (here ∙ rw (ne_eqb (length_of s.revision (frame / 65536)) 0 known, ne_eqb (frame % 65536) (length_of s.revision (frame / 65536)) k))

    -- of its kind's length: a record, if it is whole
    pub head_whole : (kind : RecordKind) (size : ℕ) → kind_number kind ≡ frame / 65536 → size ≡ frame % 65536 → frame % 65536 ≡ length_of s.revision (frame / 65536) → Headed s at (whole_head (length s.bytes - at) kind size)
    unfolding framed headed whole_head
    head_whole kind size e f k = rw f (go (ltb (length s.bytes - at) (frame % 65536 + 2)) refl)
      where
        go : (t : Bool) → ltb (length s.bytes - at) (frame % 65536 + 2) ≡ t → Headed s at (cond t Broken (RecordHead (record { kind = kind; size = frame % 65536 })))
        go true q =
            let z : length (drop at s.bytes) < frame % 65536 + 2 = rw (length-drop at s.bytes) (ltb-true (length s.bytes - at) (frame % 65536 + 2) q) in
            broken-is s at (here ∙ rw (ne_eqb (length_of s.revision (frame / 65536)) 0 known, eq-eqb (frame % 65536) (length_of s.revision (frame / 65536)) k, lt-ltb (length (drop at s.bytes)) (frame % 65536 + 2) z))
        go false q =
            let l = ltb-false (length s.bytes - at) (frame % 65536 + 2) q in
            let z : frame % 65536 + 2 ≤ length (drop at s.bytes) = rw (length-drop at s.bytes) l in
            let q : parse_at s at ≡ found (record_of (frame / 65536) (take (frame % 65536 + 2) (drop at s.bytes))) (drop (frame % 65536 + 2) (drop at s.bytes)) =
            here ∙ rw (ne_eqb (length_of s.revision (frame / 65536)) 0 known, eq-eqb (frame % 65536) (length_of s.revision (frame / 65536)) k, le-ltb (length (drop at s.bytes)) (frame % 65536 + 2) z) in
            record {
              is = ap (λ (n : ℕ). found (record_of n (take (frame % 65536 + 2) (drop at s.bytes))) (drop (frame % 65536 + 2) (drop at s.bytes))) e ∙ sym q;
              whole = record { fits = omega arith; sized = k ∙ sym (ap (length_of s.revision) e); some = omega (arith, known, ap (length_of s.revision) e) };
            }

  -- the frames of kinds 4 and 5
  pub head_stack : frame ≡ 262167 → Headed s at (whole_head (length s.bytes - at) Stack 23)
  unfolding length_of
  head_stack e = head_whole (rw e (λ z. omega arith)) Stack 23 (rw e) (rw e) (rw e)

  pub head_ram : frame ≡ 327703 → Headed s at (whole_head (length s.bytes - at) Ram 23)
  unfolding length_of
  head_ram e = head_whole (rw e (λ z. omega arith)) Ram 23 (rw e) (rw e) (rw e)

-- where a head says that a record stands, it is read
pub head_record : (log : Log) (at : ℕ) (f : Frame) → Headed log at (RecordHead f) → parse_at log at ≡ found (record_at log at (kind_number f.kind)) (drop (at + (f.size + 2)) log.bytes)
unfolding headed
head_record log at f g =
    sym (rw (g.whole.sized, drop-drop (length_of log.revision (kind_number f.kind) + 2) at log.bytes) at g.is) ∙ rw g.whole.sized
