-- One step: replay reads its records from the machine before it to the machine after it. Assumes nothing.
use mathlib.Core.Path.{◌≡◌, refl, sym, ap, subst, ◌∙◌}
use mathlib.Core.Bool.{Bool, true, false}
use mathlib.Core.List.{List, [], ◌∷◌, ◌++◌}
use Prim.Native.Nat.{ℕ, zero, suc, ◌+◌, ◌-◌, ◌≤◌, ◌<◌}
use native.Mathlib.Nat.{add-zero, sub-zero}
use native.Mathlib.Omega.{arith}
use borrow.Author.Tests.{eq-eqb, ne_eqb, eqb-true, leb-true, leb-false}
use lib.ListN.{length, get_or, length-append}
use lib.Dec.{eqb, leb, lit≤}
use Rattle.choices.specs.Choice.{cond}
use Rattle.machine.specs.Words.{p, Words}
use Rattle.machine.specs.Ram.{Cells, stored, Alike}
use Rattle.machine.specs.Machine.{Machine}
use Rattle.machine.specs.Machine as M
use Rattle.machine.specs.Bytes.{bytes_of}
use Rattle.machine.specs.Effect.{Call, Effect}
use Rattle.machine.specs.Apply.{touched, depth_after, stack_after, ram_after}
use Rattle.machine.specs.Records.{Record, other, timed, stack, ram, length_of, words_bytes, clocked, call_record, call_records, growing, shrinking, stack_records, records_of}
use Rattle.machine.specs.Sound.{Honest, Sound, Facts, ram_calls}
use Rattle.machine.proofs.Words.{words_get_d}
use Rattle.machine.proofs.RamLaws.{stored_addresses, alike-held, alike-stored}
use Rattle.machine.proofs.Touched.{touched-more}
use Rattle.machine.proofs.OpStack.{applied_words, applied_length, applied_below}
use Rattle.machine.proofs.Bytes.{bytes-length}
use Rattle.machine.proofs.Records.{words-bytes-length, stack-grows, stack-shrinks}
use Rattle.machine.proofs.Preserved.{Fits}
use Rattle.replay.specs.Replay.{Tally, tally, tally_at, with_stack, with_ram, Built, built, goes, read_of}
use Rattle.replay.specs.Demand3.{under}
use Rattle.replay.proofs.Under.{under_same, under-length, under_more, under_top, under-less}
use Rattle.replay.proofs.Verdicts.{Reads, none, more, reads-append, reads_snoc, All, all_append, ram-read, ram-write, stack-read, stack-write, other-read, timed-read}

-- ---- what is counted at a clock

-- at clock t there are n stack records, of direction w
pub record Counted (l : Tally) (t n w : ℕ) : Type 0 where
  pub rise : l.last ≤ t
  pub stacks : (tally_at l t).stacks ≡ n
  pub way : (n ≡ 0 → ⊥) → (tally_at l t).way ≡ w

-- no record of the stack or of RAM yet
pub record Fresh (l : Tally) (t : ℕ) : Type 0 where
  pub rise : l.last ≤ t
  pub stacks : (tally_at l t).stacks ≡ 0
  pub rams : (tally_at l t).rams ≡ 0

-- at a higher clock nothing is counted yet
pub fresh-next : (l : Tally) (t : ℕ) → l.last < t → Fresh l t
unfolding tally_at
fresh-next l t h =
    let n : l.last ≡ t → ⊥ = λ e. omega arith in
    record { rise = omega arith; stacks = rw (ne_eqb l.last t n); rams = rw (ne_eqb l.last t n) }

pub fresh-first : Fresh (tally 0 0 0 0) 0
unfolding tally_at
fresh-first = record { rise = omega arith; stacks = refl; rams = refl }

tally-same : (l : Tally) (t : ℕ) → l.last ≡ t → tally_at l t ≡ l
unfolding tally_at
tally-same l t e = rw (eq-eqb l.last t e)

tally-last : (l : Tally) (t : ℕ) → (tally_at l t).last ≡ t
unfolding tally_at
tally-last l t = go (eqb l.last t) refl
  where
    go : (u : Bool) → eqb l.last t ≡ u → (cond u l (tally t 0 0 0)).last ≡ t
    go true e = eqb-true l.last t e
    go false e = refl

-- a Tip5 or U32 record with a clock is not counted
timed-same : (l : Tally) (t : ℕ) → tally_at (tally_at l t) t ≡ tally_at l t
timed-same l t = tally-same (tally_at l t) t (tally-last l t)

timed-counted : {l : Tally} {t w : ℕ} → Counted l t 0 w → Counted (tally_at l t) t 0 w
timed-counted {l} {t} k = record { rise = omega (arith, tally-last l t); stacks = ap (λ z. z.stacks) (timed-same l t) ∙ k.stacks; way = λ n. absurd (n refl) }

ram_rams : (l : Tally) (t : ℕ) → (tally_at (with_ram l t) t).rams ≡ (tally_at l t).rams + 1
unfolding with_ram
ram_rams l t = ap (λ z. z.rams) (tally-same _ t refl)

ram-counted : {l : Tally} {t w : ℕ} → Counted l t 0 w → Counted (with_ram l t) t 0 w
unfolding with_ram
ram-counted {l} {t} k = record { rise = omega arith; stacks = ap (λ z. z.stacks) (tally-same _ t refl) ∙ k.stacks; way = λ n. absurd (n refl) }

stack-counted : {l : Tally} {t n w : ℕ} → Counted l t n w → Counted (with_stack l t w) t (suc n) w
unfolding with_stack
stack-counted {l} {t} {n} k =
    record { rise = omega arith; stacks = ap (λ z. z.stacks) (tally-same _ t refl) ∙ (omega (arith, k.stacks)); way = λ _. ap (λ z. z.way) (tally-same _ t refl) }

-- replay comes from b over the records rs to depth d, words s and cells alike to c, with n stack records of direction w at clock t
record Comes (j t : ℕ) (b : Built) (rs : List Record) (d : ℕ) (s : List ℕ) (c : Cells) (n w : ℕ) : Type 0 where
  counts : Tally
  counted : Counted counts t n w
  now : Cells
  alike : Alike now c
  reads : Reads j b rs (built counts d s now)

-- the same, at a last clock of at most t
pub record Arrives (j t : ℕ) (b : Built) (rs : List Record) (d : ℕ) (s : List ℕ) (c : Cells) : Type 0 where
  pub counts : Tally
  pub rise : counts.last ≤ t
  pub now : Cells
  pub alike : Alike now c
  pub reads : Reads j b rs (built counts d s now)

-- ---- its records are read

down_one : (d n : ℕ) → 17 + n ≤ d → d - 1 - n - 16 ≡ d - n - 17
down_one d n h = omega arith

down_two : (d n : ℕ) → 17 + n ≤ d → d - 1 - n + 1 ≡ d - n
down_two d n h = omega arith

down-small : (d n b : ℕ) → d ≤ b → b ≤ 16777216 → d - 1 - n < p
down-small d n b h k = omega arith

-- replay goes over a Tip5 or U32 record, with a clock or without one, and counts nothing
record Passes (j t : ℕ) (l : Tally) (d : ℕ) (s : List ℕ) (c : Cells) (w : ℕ) (r : Record) : Type 0 where
  next : Tally
  counted : Counted next t 0 w
  rams : (tally_at next t).rams ≡ (tally_at l t).rams
  read : read_of j (built l d s c) r ≡ goes (built next d s c)

module _ (v j t : ℕ) (early : t < j) where
  clocked-passes : (k : ℕ) (b : List ℕ) (l : Tally) (d : ℕ) (s : List ℕ) (c : Cells) (w : ℕ) → Counted l t 0 w → Passes j t l d s c w (clocked v t k b)
  unfolding clocked
  clocked-passes k b l d s c w h = go (eqb v 2)
    where
      go : (u : Bool) → Passes j t l d s c w (cond u (timed (k + 4) t b) (other k b))
      go true = record { next = tally_at l t; counted = timed-counted h; rams = ap (λ z. z.rams) (timed-same l t); read = timed-read j t (built l d s c) early h.rise (k + 4) b }
      go false = record { next = l; counted = h; rams = refl; read = other-read j k (built l d s c) b }

  calls-read : {c : Cells} {cs : List Call} → Honest c cs → (touched c cs).count ≤ length c.addresses →
      (l : Tally) (d : ℕ) (s : List ℕ) (now : Cells) (w : ℕ) → Alike now c → Counted l t 0 w → (tally_at l t).rams + ram_calls cs ≤ 10 →
      Comes j t (built l d s now) (call_records v t cs) d s (touched c cs) 0 w
  unfolding touched call_records call_record ram_calls
  calls-read Honest.none f l d s now w al h m = record { counts = l; counted = h; now = now; alike = al; reads = none }
  calls-read (Honest.resets g) f l d s now w al h m =
      let k = calls-read g f l d s now w al h m in
      record { counts = k.counts; counted = k.counted; now = k.now; alike = k.alike; reads = more (other-read j 1 (built l d s now) []) k.reads }
  calls-read (Honest.traces {o = o} {t = x} e g) f l d s now w al h m =
      let q = clocked-passes 2 (bytes_of 2 o ++ words_bytes x) l d s now w h in
      let k = calls-read g f q.next d s now w al q.counted (omega (arith, q.rams, m)) in
      record { counts = k.counts; counted = k.counted; now = k.now; alike = k.alike; reads = more q.read k.reads }
  calls-read (Honest.u32s {o = o} {l = x} {r = y} g) f l d s now w al h m =
      let q = clocked-passes 3 (bytes_of 2 o ++ bytes_of 8 x ++ bytes_of 8 y) l d s now w h in
      let k = calls-read g f q.next d s now w al q.counted (omega (arith, q.rams, m)) in
      record { counts = k.counts; counted = k.counted; now = k.now; alike = k.alike; reads = more q.read k.reads }
  calls-read (Honest.reads {a = a} {v = v} q r e g) f l d s now w al h m =
      let k = calls-read g f (with_ram l t) d s now w al (ram-counted h) (omega (arith, ram_rams l t, m)) in
      record {
        counts = k.counts;
        counted = k.counted;
        now = k.now;
        alike = k.alike;
        reads = more (ram-read j t (built l d s now) early h.rise (omega (arith, m)) a v q r (e ∙ sym (alike-held al a))) k.reads;
      }
  calls-read {c} (Honest.writes {cs = cs} {a = a} {v = v} q r g) f l d s now w al h m =
      let f2 : (touched (stored c a v) cs).count ≤ length (stored c a v).addresses = rw (stored_addresses c a v) f in
      let al2 = alike-stored al a v in
      let k = calls-read g f2 (with_ram l t) d s (stored now a v) w al2 (ram-counted h) (omega (arith, ram_rams l t, m)) in
      let o : (stored now a v).count ≤ length now.addresses = omega (arith, touched-more cs (stored c a v), al2.count, al.room) in
      record {
        counts = k.counts;
        counted = k.counted;
        now = k.now;
        alike = k.alike;
        reads = more (ram-write j t (built l d s now) early h.rise (omega (arith, m)) a v q r o) k.reads;
      }

module _ (j t : ℕ) (early : t < j) where
  module _ (s : List ℕ) (words : Words s) (few : length s ≤ 16777216) (c now : Cells) (al : Alike now c) where
    -- one write more
    grow_one : {b : Built} {rs : List Record} (d n : ℕ) → 16 ≤ d + n → d + n < length s → n < 10 → Comes j t b rs (d + n) (under s (d + n)) c n 1 →
        Comes j t b (rs ++ (stack t (d + n) 1 (get_or s (d + n - 16) 0) ∷ [])) (d + n + 1) (under s (d + n + 1)) c (suc n) 1
    grow_one d n x y most k =
        let i : (tally_at k.counts t).stacks < 10 = omega (arith, k.counted.stacks) in
        let f : d + n - 15 ≤ length (under s (d + n)) = rw (under-length s (d + n) (omega arith)) (omega arith) in
        rw (← under_more s (d + n) x y)
        (record {
          counts = with_stack k.counts t 1;
          counted = stack-counted k.counted;
          now = k.now;
          alike = k.alike;
          reads =
              reads_snoc (stack t (d + n) 1 (get_or s (d + n - 16) 0)) k.reads
              (stack-write j t (built k.counts (d + n) (under s (d + n)) k.now) early k.counted.rise i (λ z. k.counted.way (λ u. z (k.counted.stacks ∙ u))) (d + n) (get_or s (d + n - 16) 0) (omega arith) (words_get_d (d + n - 16) words) refl f);
        })

    growing-read : (d n : ℕ) → 16 ≤ d → d + n ≤ length s → n ≤ 10 → (l : Tally) → Counted l t 0 1 →
        Comes j t (built l d (under s d) now) (growing t s d n) (d + n) (under s (d + n)) c n 1
    unfolding growing
    growing-read d zero low room most l h = rw (add-zero d) (record { counts = l; counted = h; now = now; alike = al; reads = none })
    growing-read d (suc n) low room most l h =
        let e : d + suc n ≡ d + n + 1 = omega arith in
        subst (λ (z : ℕ). Comes j t (built l d (under s d) now) (growing t s d (suc n)) z (under s z) c (suc n) 1) (sym e)
        (grow_one d n (omega arith) (omega arith) (omega arith) (growing-read d n low (omega arith) (omega arith) l h))

    -- one read more
    shrink_one : {b : Built} {rs : List Record} (d n : ℕ) → 17 + n ≤ d → d ≤ length s → n < 10 → Comes j t b rs (d - n) (under s (d - n)) c n 0 →
        Comes j t b (rs ++ (stack t (d - 1 - n) 0 (get_or s (d - 1 - n - 16) 0) ∷ [])) (d - n - 1) (under s (d - n - 1)) c (suc n) 0
    shrink_one d n g room most k =
        let x : 16 < d - n = omega arith in
        let y : d - n ≤ length s = omega arith in
        let i : (tally_at k.counts t).stacks < 10 = omega (arith, k.counted.stacks) in
        rw (← under-less s (d - n) x y, down_one d n g)
        (record {
          counts = with_stack k.counts t 0;
          counted = stack-counted k.counted;
          now = k.now;
          alike = k.alike;
          reads =
              reads_snoc (stack t (d - 1 - n) 0 (get_or s (d - n - 17) 0)) k.reads
              (stack-read j t (built k.counts (d - n) (under s (d - n)) k.now) early k.counted.rise i (λ z. k.counted.way (λ u. z (k.counted.stacks ∙ u))) (d - 1 - n) (get_or s (d - n - 17) 0) (down-small d n (length s) room few) (words_get_d (d - n - 17) words) x (down_two d n g) (sym (under_top s (d - n) x y)));
        })

    shrinking-read : (d n : ℕ) → 16 + n ≤ d → d ≤ length s → n ≤ 10 → (l : Tally) → Counted l t 0 0 →
        Comes j t (built l d (under s d) now) (shrinking t s d n) (d - n) (under s (d - n)) c n 0
    unfolding shrinking
    shrinking-read d zero low room most l h = rw (sub-zero d) (record { counts = l; counted = h; now = now; alike = al; reads = none })
    shrinking-read d (suc n) low room most l h =
        let e : d - suc n ≡ d - n - 1 = omega arith in
        subst (λ (z : ℕ). Comes j t (built l d (under s d) now) (shrinking t s d (suc n)) z (under s z) c (suc n) 0) (sym e)
        (shrink_one d n (omega arith) room (omega arith) (shrinking-read d n (omega arith) room (omega arith) l h))

arrives : {j t : ℕ} {b : Built} {rs : List Record} {d : ℕ} {s : List ℕ} {c : Cells} {n w : ℕ} → Comes j t b rs d s c n w → Arrives j t b rs d s c
arrives k = record { counts = k.counts; rise = k.counted.rise; now = k.now; alike = k.alike; reads = k.reads }

-- of either direction, where none is there yet
recounted : {l : Tally} {t w : ℕ} (x : ℕ) → Counted l t 0 w → Counted l t 0 x
recounted x k = record { rise = k.rise; stacks = k.stacks; way = λ n. absurd (n refl) }

grows-read : (j t : ℕ) → t < j → (s s2 : List ℕ) → Words s2 → length s2 ≤ 16777216 → (c now : Cells) → Alike now c → (d d2 : ℕ) → 16 ≤ d → d ≤ d2 → d2 ≤ length s2 → d2 ≤ d + 10 →
    (l : Tally) → Counted l t 0 1 → Arrives j t (built l d (under s2 d) now) (stack_records t s s2 d d2) d2 (under s2 d2) c
grows-read j t early s s2 b m c now al d d2 low o high most l h =
    let y : d + (d2 - d) ≡ d2 = omega arith in
    let r : d + (d2 - d) ≤ length s2 = omega arith in
    rw (stack-grows t s s2 d d2 o) (rw y at (arrives (growing-read j t early s2 b m c now al d (d2 - d) low r (omega arith) l h)))

shrinks-read : (j t : ℕ) → t < j → (s s2 : List ℕ) → Words s → length s ≤ 16777216 → (c now : Cells) → Alike now c → (d d2 : ℕ) → 16 ≤ d2 → d2 ≤ d → d ≤ length s → d ≤ d2 + 10 →
    (l : Tally) → Counted l t 0 0 → Arrives j t (built l d (under s d) now) (stack_records t s s2 d d2) d2 (under s d2) c
shrinks-read j t early s s2 b m c now al d d2 low o high most l h =
    let y : d - (d - d2) ≡ d2 = omega arith in
    let r : 16 + (d - d2) ≤ d = omega arith in
    rw (stack-shrinks t s s2 d d2 o) (rw y at (arrives (shrinking-read j t early s b m c now al d (d - d2) r high (omega arith) l h)))

-- ---- and are as its clock and words have them

-- a record of a step at clock t, in a log of revision v
pub data Fine (v t : ℕ) : Record → Type 0 where
  fine_other : {k : ℕ} {b : List ℕ} → 1 ≤ k → k ≤ 3 → length_of v k ≡ length b + 2 → Fine v t (other k b)
  fine_timed : {k : ℕ} {b : List ℕ} → 6 ≤ k → k ≤ 7 → length_of v k ≡ length b + 6 → Fine v t (timed k t b)
  fine_stack : {q d x : ℕ} → q < p → d ≤ 1 → x < p → Fine v t (stack t q d x)
  fine_ram : {a x d : ℕ} → a < p → x < p → d ≤ 1 → Fine v t (ram t a x d)

clocked-fine : (v t k : ℕ) (b : List ℕ) → 2 ≤ k → k ≤ 3 → (eqb v 2 ≡ false → length_of v k ≡ length b + 2) → (eqb v 2 ≡ true → length_of v (k + 4) ≡ length b + 6) → Fine v t (clocked v t k b)
unfolding clocked
clocked-fine v t k b two three f g = go (eqb v 2) refl
  where
    go : (u : Bool) → eqb v 2 ≡ u → Fine v t (cond u (timed (k + 4) t b) (other k b))
    go true e = fine_timed {k = k + 4} (omega arith) (omega arith) (g e)
    go false e = fine_other {k = k} (omega arith) three (f e)

trace-length : (o : ℕ) (x : List ℕ) → length x ≡ 96 → length (bytes_of 2 o ++ words_bytes x) ≡ 770
trace-length o x e = rw (length-append (bytes_of 2 o) (words_bytes x), bytes-length 2 o, words-bytes-length x, e)

trace-fine : (v t : ℕ) (b : List ℕ) → length b ≡ 770 → Fine v t (clocked v t 2 b)
unfolding length_of
trace-fine v t b l = clocked-fine v t 2 b (omega arith) (omega arith) (λ e. rw (e, l)) (λ e. rw (e, l))

u32-length : (o x y : ℕ) → length (bytes_of 2 o ++ bytes_of 8 x ++ bytes_of 8 y) ≡ 18
unfolding bytes_of
u32-length o x y = refl

u32-fine : (v t : ℕ) (b : List ℕ) → length b ≡ 18 → Fine v t (clocked v t 3 b)
unfolding length_of
u32-fine v t b l = clocked-fine v t 3 b (omega arith) (omega arith) (λ e. rw (e, l)) (λ e. rw (e, l))

all-calls : (v t : ℕ) {c : Cells} {cs : List Call} → Honest c cs → All (Fine v t) (call_records v t cs)
unfolding call_records call_record length_of
all-calls v t Honest.none = none
all-calls v t (Honest.resets g) = more (fine_other (lit≤ tt) (lit≤ tt) refl) (all-calls v t g)
all-calls v t (Honest.traces {o = o} {t = x} e g) = more (trace-fine v t _ (trace-length o x e)) (all-calls v t g)
all-calls v t (Honest.u32s {o = o} {l = x} {r = y} g) = more (u32-fine v t _ (u32-length o x y)) (all-calls v t g)
all-calls v t (Honest.reads q r e g) = more (fine_ram {d = 0} q r (omega arith)) (all-calls v t g)
all-calls v t (Honest.writes q r g) = more (fine_ram {d = 1} q r (omega arith)) (all-calls v t g)

all-growing : (v t : ℕ) (s : List ℕ) → Words s → (d n : ℕ) → d + n ≤ 16777216 → All (Fine v t) (growing t s d n)
unfolding growing
all-growing v t s b d zero h = none
all-growing v t s b d (suc n) h = all_append (all-growing v t s b d n (omega arith)) (more (fine_stack (omega arith) (omega arith) (words_get_d (d + n - 16) b)) none)

all-shrinking : (v t : ℕ) (s : List ℕ) → Words s → (d n : ℕ) → d ≤ 16777216 → All (Fine v t) (shrinking t s d n)
unfolding shrinking
all-shrinking v t s b d zero h = none
all-shrinking v t s b d (suc n) h = all_append (all-shrinking v t s b d n h) (more (fine_stack (omega arith) (omega arith) (words_get_d (d - 1 - n - 16) b)) none)

-- ---- the step

module _ (m : Machine) (e : Effect) (sound : Sound m) (facts : Facts m e) (fits : Fits m e) where
  deep_enough : e.pops ≤ m.state.depth
  deep_enough = omega (arith, facts.pops, sound.deep)

  same_length : length (stack_after m e) ≡ length m.memory.op_stack
  same_length = applied_length m.memory.op_stack e.words m.state.depth e.pops deep_enough sound.op_stack.used fits.depth

  after-words : Words (stack_after m e)
  after-words = applied_words m.memory.op_stack e.words m.state.depth e.pops sound.op_stack.words facts.words

  -- below the lesser depth the stacks before and after have the same words
  same-under : (n : ℕ) → n - 16 ≤ m.state.depth - e.pops → under m.memory.op_stack n ≡ under (stack_after m e) n
  same-under n h =
      under_same m.memory.op_stack (stack_after m e) n
      (sym (applied_below m.memory.op_stack e.words m.state.depth e.pops deep_enough sound.op_stack.used fits.depth (n - 16) h))
      (sym same_length)

  stack-reads : (j : ℕ) → m.state.clock < j → (c now : Cells) → Alike now c → (l : Tally) → Counted l m.state.clock 0 1 →
      Arrives j m.state.clock (built l m.state.depth (under m.memory.op_stack m.state.depth) now)
      (stack_records m.state.clock m.memory.op_stack (stack_after m e) m.state.depth (depth_after m e))
      (depth_after m e) (under (stack_after m e) (depth_after m e)) c
  stack-reads j early c now al l h = go (leb m.state.depth (depth_after m e)) refl
    where
      go : (x : Bool) → leb m.state.depth (depth_after m e) ≡ x →
          Arrives j m.state.clock (built l m.state.depth (under m.memory.op_stack m.state.depth) now)
          (stack_records m.state.clock m.memory.op_stack (stack_after m e) m.state.depth (depth_after m e))
          (depth_after m e) (under (stack_after m e) (depth_after m e)) c
      go true q =
          let b : length (stack_after m e) ≤ 16777216 = rw same_length sound.op_stack.few in
          let r : depth_after m e ≤ length (stack_after m e) = rw same_length fits.depth in
          let u : m.state.depth - 16 ≤ m.state.depth - e.pops = omega (arith, facts.pops) in
          rw (same-under m.state.depth u)
          (grows-read j m.state.clock early m.memory.op_stack (stack_after m e) after-words b c now al m.state.depth (depth_after m e) sound.deep (leb-true m.state.depth (depth_after m e) q) r (omega (arith, facts.grows, deep_enough)) l h)
      go false q =
          let o : depth_after m e < m.state.depth = leb-false m.state.depth (depth_after m e) q in
          let u : depth_after m e - 16 ≤ m.state.depth - e.pops = omega (arith, facts.pops, sound.deep) in
          let k : 16 ≤ depth_after m e = omega (arith, facts.pops, facts.deep, sound.deep) in
          rw (← same-under (depth_after m e) u)
          (shrinks-read j m.state.clock early m.memory.op_stack (stack_after m e) sound.op_stack.words sound.op_stack.few c now al m.state.depth (depth_after m e) k (omega arith) sound.op_stack.used (omega (arith, facts.shrinks, deep_enough)) l (recounted 0 h))

  pub step-reads : (j : ℕ) → m.state.clock < j → (now : Cells) → Alike now (M.ram m) → (l : Tally) → Fresh l m.state.clock →
      Arrives j m.state.clock (built l m.state.depth (under m.memory.op_stack m.state.depth) now) (records_of m e)
      (depth_after m e) (under (stack_after m e) (depth_after m e)) (ram_after m e)
  unfolding records_of
  step-reads j early now al l h =
      let n : Counted l m.state.clock 0 1 = record { rise = h.rise; stacks = h.stacks; way = λ z. absurd (z refl) } in
      let a = calls-read m.state.revision j m.state.clock early facts.calls fits.cells l m.state.depth (under m.memory.op_stack m.state.depth) now 1 al n (omega (arith, h.rams, facts.accesses)) in
      let b = stack-reads j early (ram_after m e) a.now a.alike a.counts a.counted in
      record { counts = b.counts; rise = b.rise; now = b.now; alike = b.alike; reads = reads-append a.reads b.reads }

  pub step-fine : All (Fine m.state.revision m.state.clock) (records_of m e)
  unfolding records_of stack_records
  step-fine =
      all_append (all-calls m.state.revision m.state.clock facts.calls)
      (all_append (all-growing m.state.revision m.state.clock (stack_after m e) after-words m.state.depth (depth_after m e - m.state.depth) (omega (arith, fits.depth, sound.op_stack.few, sound.op_stack.used)))
      (all-shrinking m.state.revision m.state.clock m.memory.op_stack sound.op_stack.words m.state.depth (m.state.depth - depth_after m e) (omega (arith, sound.op_stack.few, sound.op_stack.used))))
