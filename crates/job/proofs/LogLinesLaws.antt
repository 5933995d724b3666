-- Laws of a log's stack lines: one record at a time, and that a log's bytes give the lines of its records. Assumes nothing.
use mathlib.Core.Path.{◌≡◌, refl, sym, ap, ◌∙◌}
use mathlib.Core.Bool.{Bool, true, false}
use mathlib.Core.List.{List, [], ◌∷◌, ◌++◌, append_assoc, append-nil}
use Prim.Native.Nat.{ℕ, zero, suc, ◌+◌, ◌*◌, ◌≤◌, ◌<◌}
use native.Mathlib.Omega.{arith}
use borrow.Author.Tests.{eqb-true, ltb-false, le-ltb, eq-eqb, ne_eqb}
use lib.ListN.{length, get_or, take, drop, length-drop}
use lib.Seq.{drop-drop}
use lib.Dec.{eqb, ltb}
use Rattle.choices.specs.Choice.{cond}
use Rattle.machine.specs.Bytes.{number_of}
use Rattle.machine.specs.Records.{Record, other, timed, ram, length_of, record_of, log_bytes, Parsed, ended, broken, found, framed, parse}
use Rattle.machine.proofs.Records.{Sized, Shorter, at_record, parse-shorter, parse-record, many_bytes}
use Rattle.job.specs.Frame.{kind_in, whole_by, size_by}
use Rattle.job.specs.Listing.{direction_text, stack_line, Put}
use Rattle.job.specs.LogLines.{line_of, lines_of, on_record, lines_in, log_lines}
use Rattle.job.proofs.FrameLaws.{Whole, size_whole}
use Rattle.job.proofs.ListingLaws.{put_as, put-more, put-none}

-- a whole record is parsed
parse-whole : (b : List ℕ) → Whole (length_of 1) b → parse 1 b ≡ found (record_of (kind_in b) (take (size_by (length_of 1) b) b)) (drop (size_by (length_of 1) b) b)
unfolding parse framed kind_in
parse-whole [] w = absurd (omega (arith, w.long))
parse-whole (x ∷ b) w =
    let k = length_of 1 (kind_in (x ∷ b)) in
    let z : k ≡ 0 → ⊥ = λ e. omega (arith, w.known) in
    rw (w.size, le-ltb (length (x ∷ b)) 4 w.long, ne_eqb k 0 z, eq-eqb (number_of (take 2 (x ∷ b))) k w.field, w.field, le-ltb (length (x ∷ b)) (k + 2) w.fits)

-- and what is none is not
parse-none : (b : List ℕ) (f : Record → List ℕ → List ℕ) → size_by (length_of 1) b ≡ 0 → on_record f (parse 1 b) ≡ []
unfolding parse framed kind_in size_by whole_by
parse-none [] f h = refl
parse-none (x ∷ b) f h = go (ltb (length s) 4) (eqb k 0) (eqb n k) (ltb (length s) (n + 2)) refl refl h
  where
    s : List ℕ
    s = x ∷ b

    n : ℕ
    n = number_of (take 2 s)

    k : ℕ
    k = length_of 1 (number_of (take 2 (drop 2 s)))

    go : (t u v w : Bool) → eqb n k ≡ v → ltb (length s) (n + 2) ≡ w → cond t 0 (cond u 0 (cond v (cond (ltb (length s) (k + 2)) 0 (k + 2)) 0)) ≡ 0 →
        on_record f (cond t broken (cond u broken (cond v (cond w broken (found (record_of (number_of (take 2 (drop 2 s))) (take (n + 2) s)) (drop (n + 2) s))) broken))) ≡ []
    go true u v w e i j = refl
    go false true v w e i j = refl
    go false false false w e i j = refl
    go false false true true e i j = refl
    go false false true false e i j =
        let l : k + 2 ≤ length s = omega (arith, eqb-true n k e, ltb-false (length s) (n + 2) i) in
        absurd (omega (arith, rw (le-ltb (length s) (k + 2) l) at j))

-- ---- lines of bytes, one record at a time

lines_enough : (f g : ℕ) (b : List ℕ) → length b ≤ f → length b ≤ g → lines_in f b ≡ lines_in g b
unfolding lines_in parse
lines_enough zero zero b h k = refl
lines_enough zero (suc g) [] h k = refl
lines_enough zero (suc g) (x ∷ b) h k = absurd (omega arith)
lines_enough (suc f) zero [] h k = refl
lines_enough (suc f) zero (x ∷ b) h k = absurd (omega arith)
lines_enough (suc f) (suc g) b h k = go (parse 1 b) (parse-shorter 1 b) (λ t i j. lines_enough f g t i j)
  where
    go : (p : Parsed) → Shorter (length b) p → ((t : List ℕ) → length t ≤ f → length t ≤ g → lines_in f t ≡ lines_in g t) →
        on_record (λ r t. line_of r ++ lines_in f t) p ≡ on_record (λ r t. line_of r ++ lines_in g t) p
    go ended s i = refl
    go broken s i = refl
    go (found r t) (at_record l) i = ap (λ (u : List ℕ). line_of r ++ u) (i t (omega arith) (omega arith))

pub lines_end : (b : List ℕ) → size_by (length_of 1) b ≡ 0 → log_lines b ≡ []
unfolding log_lines lines_in
lines_end [] h = refl
lines_end (x ∷ b) h = parse-none (x ∷ b) _ h

-- what stands at place at gives a line, and the lines behind it
pub lines_turn : (b : List ℕ) → 0 < size_by (length_of 1) b → log_lines b ≡ line_of (record_of (kind_in b) (take (size_by (length_of 1) b) b)) ++ log_lines (drop (size_by (length_of 1) b) b)
unfolding log_lines lines_in
lines_turn [] h = absurd (omega (arith, (size_whole (length_of 1) [] h).long))
lines_turn (x ∷ b) h =
    let w = size_whole (length_of 1) (x ∷ b) h in
    let n = size_by (length_of 1) (x ∷ b) in
    let l : length (drop n (x ∷ b)) ≤ length b = rw (length-drop n (x ∷ b)) (omega arith) in
    rw (parse-whole (x ∷ b) w) (ap (λ (u : List ℕ). line_of (record_of (kind_in (x ∷ b)) (take n (x ∷ b))) ++ u) (lines_enough (length b) (length (drop n (x ∷ b))) (drop n (x ∷ b)) l (omega arith)))

-- ---- the code

-- the fields of a record of kind 4, where the code reads them
pub stack-line-is : (b : List ℕ) (t q d v : ℕ) → t ≡ number_of (take 4 (drop 4 b)) → q ≡ number_of (take 8 (drop 8 b)) → direction_text d ≡ direction_text (get_or b 16 0) → v ≡ number_of (take 8 (drop 17 b)) →
    stack_line t q d v ≡ line_of (record_of 4 b)
unfolding line_of record_of stack_line
stack-line-is b t q d v e f g h = rw (e, f, g, h)

-- a record of another kind gives none
pub line-none : (k : ℕ) (b : List ℕ) → (k ≡ 4 → ⊥) → [] ≡ line_of (record_of k b)
unfolding line_of record_of
line-none k b h = rw (ne_eqb k 4 h) (go (eqb k 5) (ltb 5 k))
  where
    go : (t u : Bool) → [] ≡ line_of (cond t (ram (number_of (take 4 (drop 4 b))) (number_of (take 8 (drop 8 b))) (number_of (take 8 (drop 16 b))) (get_or b 24 0)) (cond u (timed k (number_of (take 4 (drop 4 b))) (drop 8 b)) (other k (drop 4 b))))
    go true u = refl
    go false true = refl
    go false false = refl

-- what a whole record at the start of a log says of the log
pub whole_start : (b : List ℕ) (n : ℕ) → n ≡ size_by (length_of 1) b → 0 < n → (4 ≤ length b) × (n ≤ length b)
whole_start b n e h = let w = size_whole (length_of 1) b (rw (← e) h) in (w.long, omega (arith, w.size, w.fits))

-- one of kind 4 has 25 bytes
pub four_long : (b : List ℕ) (n k : ℕ) → n ≡ size_by (length_of 1) b → 0 < n → k ≡ kind_in b → k ≡ 4 → n ≡ 25
unfolding length_of
four_long b n k e h f g = let w = size_whole (length_of 1) b (rw (← e) h) in e ∙ w.size ∙ rw (← f, g)

-- lines that are written, and the rest of the log
pub lines-next : (b c text line : List ℕ) (n : ℕ) → n ≡ size_by (length_of 1) b → 0 < n → line ≡ line_of (record_of (kind_in b) (take n b)) → c ≡ drop n b → (all : List ℕ) → text ++ log_lines b ≡ all → (text ++ line) ++ log_lines c ≡ all
lines-next b c text line n e h f g all i =
    append_assoc text line (log_lines c)
    ∙ ap (λ (u : List ℕ). text ++ u) (rw (f, g, e) (sym (lines_turn b (rw (← e) h))))
    ∙ i

pub lines-last : (b text all : List ℕ) → size_by (length_of 1) b ≡ 0 → text ++ log_lines b ≡ all → text ≡ all
lines-last b text all h i = sym (append-nil text) ∙ ap (λ (u : List ℕ). text ++ u) (sym (lines_end b h)) ∙ i

-- ---- a lent buffer

-- what a whole record at a place of the log says of the place
pub whole-place : (b : List ℕ) (at n : ℕ) → at ≤ length b → 0 < n → n ≡ size_by (length_of 1) (drop at b) → (at + 4 ≤ length b) × (n ≡ length_of 1 (kind_in (drop at b)) + 2) × (at + n ≤ length b)
whole-place b at n h k e =
    let w = size_whole (length_of 1) (drop at b) (rw (← e) k) in
    let l = length-drop at b in
    (omega (arith, w.long), omega (arith, w.size), omega (arith, w.fits, w.size))

-- one of kind 4 has 25 bytes
pub place_four : (b : List ℕ) (at n k : ℕ) → at ≤ length b → 0 < n → n ≡ size_by (length_of 1) (drop at b) → k ≡ kind_in (drop at b) → k ≡ 4 → n ≡ 25
unfolding length_of
place_four b at n k h i e f g = let w = (whole-place b at n h i e).1 in w ∙ rw (← f, g)

-- the lines of the records in front of place at are written
pub record Lines (b o o2 : List ℕ) (to at next : ℕ) : Type 0 where
  pub text : List ℕ
  pub put : Put o o2 to text (3 * at) next
  pub rest : text ++ log_lines (drop at b) ≡ log_lines b

pub lines_none : (b o : List ℕ) (to : ℕ) → Lines b o o to 0 to
lines_none b o to = record { text = []; put = put-none o to; rest = refl }

pub lines_more : {b o o1 o2 : List ℕ} {to at next n next2 : ℕ} → to ≤ length o → at ≤ length b → 0 < n → n ≡ size_by (length_of 1) (drop at b) → Lines b o o1 to at next →
    Put o1 o2 next (line_of (record_of (kind_in (drop at b)) (take n (drop at b)))) (3 * n) next2 → Lines b o o2 to (at + n) next2
lines_more {b} {o} {o1} {o2} {to} {at} {next} {n} {next2} h i k e l p =
    let line = line_of (record_of (kind_in (drop at b)) (take n (drop at b))) in
    record {
      text = l.text ++ line;
      put = put-more h l.put p refl (omega arith);
      rest =
          append_assoc l.text line _
          ∙ ap (λ (u : List ℕ). l.text ++ u)
          (rw (← drop-drop n at b) (ap (λ (m : ℕ). line_of (record_of (kind_in (drop at b)) (take m (drop at b))) ++ log_lines (drop m (drop at b))) e ∙ sym (lines_turn (drop at b) (rw (← e) k))))
          ∙ l.rest;
    }

pub lines-all : {b o o2 : List ℕ} {to at next n : ℕ} → at ≤ length b → n ≡ size_by (length_of 1) (drop at b) → n ≡ 0 → Lines b o o2 to at next → Put o o2 to (log_lines b) (3 * length b) next
lines-all {b} {o} {o2} {to} {at} {next} {n} h e z l =
    let f : l.text ≡ log_lines b = sym (append-nil l.text) ∙ ap (λ (u : List ℕ). l.text ++ u) (sym (lines_end (drop at b) (sym e ∙ z))) ∙ l.rest in
    put_as l.put f (rw (← f) (omega (arith, l.put.few)))

-- ---- a log that a job wrote

-- a log's bytes give the lines of its records
pub data AllSized : List Record → Type 0 where
  none : AllSized []
  more : {r : Record} {rs : List Record} → Sized 1 r → AllSized rs → AllSized (r ∷ rs)

lines_records : (f : ℕ) (rs : List Record) → AllSized rs → length rs ≤ f → lines_in f (log_bytes 1 rs) ≡ lines_of rs
unfolding lines_in log_bytes lines_of parse
lines_records zero [] a h = refl
lines_records (suc f) [] a h = refl
lines_records zero (r ∷ rs) a h = absurd (omega arith)
lines_records (suc f) (r ∷ rs) (more s a) h = rw (parse-record 1 r (log_bytes 1 rs) s) (ap (λ (u : List ℕ). line_of r ++ u) (lines_records f rs a (omega arith)))

pub log-lines : (rs : List Record) → AllSized rs → log_lines (log_bytes 1 rs) ≡ lines_of rs
unfolding log_lines
log-lines rs a = lines_records (length (log_bytes 1 rs)) rs a (many_bytes 1 rs)
