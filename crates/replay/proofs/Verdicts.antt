-- What replay does with one record, and with records in a row. Assumes nothing.
use mathlib.Core.Path.{◌≡◌, refl, sym, ap, ◌∙◌}
use mathlib.Core.Bool.{Bool, true, false}
use mathlib.Core.List.{List, [], ◌∷◌, ◌++◌}
use Prim.Native.Nat.{ℕ, ◌+◌, ◌-◌, ◌≤◌, ◌<◌}
use native.Mathlib.Omega.{arith}
use borrow.Author.Tests.{eq-eqb, ne_eqb, lt-ltb, le-ltb, eqb-true, eqb-false, ltb-true}
use lib.ListN.{length, get_or, set}
use lib.Dec.{eqb, ltb}
use Rattle.machine.specs.Words.{p}
use Rattle.choices.specs.Choice.{cond, first_of, differ_of}
use Rattle.machine.specs.Ram.{held, stored}
use Rattle.machine.specs.Bytes.{bytes_of}
use Rattle.machine.specs.Records.{Record, other, timed, stack, ram}
use Rattle.choices.proofs.Choice.{first_zero, above-not, differ_not}
use Rattle.machine.proofs.Bytes.{is_word_of}
use Rattle.replay.specs.Replay.{Tally, tally_at, with_stack, with_ram, Built, built, word40, fields40, clock41, stack45, ram45, stack_fault, ram_fault, stack_turn, ram_turn, stops, wrong, goes, judged, read_of, fine, onward, replay_records}

-- ---- records in a row

-- a row of records that replay reads without a stop
pub data Reads (j : ℕ) : Built → List Record → Built → Type 0 where
  none : {b : Built} → Reads j b [] b
  more : {b c d : Built} {r : Record} {rs : List Record} → read_of j b r ≡ goes c → Reads j c rs d → Reads j b (r ∷ rs) d

pub reads-append : {j : ℕ} {b c d : Built} {rs ss : List Record} → Reads j b rs c → Reads j c ss d → Reads j b (rs ++ ss) d
reads-append none k = k
reads-append (more e h) k = more e (reads-append h k)

pub reads_snoc : {j : ℕ} {b c d : Built} {rs : List Record} (r : Record) → Reads j b rs c → read_of j c r ≡ goes d → Reads j b (rs ++ (r ∷ [])) d
reads_snoc r h e = reads-append h (more e none)

pub replay_on : {j : ℕ} {b c : Built} {rs : List Record} (ss : List Record) → Reads j b rs c → replay_records j b (rs ++ ss) ≡ replay_records j c ss
unfolding replay_records
replay_on ss none = refl
replay_on {j} {b} ss (more {rs = rs} e h) = ap (onward b (λ x. replay_records j x (rs ++ ss))) e ∙ replay_on ss h

-- what holds of each record of a list
pub data All (P : Record → Type 0) : List Record → Type 0 where
  none : All P []
  more : {r : Record} {rs : List Record} → P r → All P rs → All P (r ∷ rs)

pub all_append : {P : Record → Type 0} {rs ss : List Record} → All P rs → All P ss → All P (rs ++ ss)
all_append none k = k
all_append (more p h) k = more p (all_append h k)

pub all_map : {P Q : Record → Type 0} {rs : List Record} → ((r : Record) → P r → Q r) → All P rs → All Q rs
all_map f none = none
all_map f (more {r = r} p h) = more (f r p) (all_map f h)

-- ---- stopped, wrong, or on

pub judged-stops : (j t n : ℕ) (b : Built) → j ≤ t → judged j t n b ≡ stops
unfolding judged
judged-stops j t n b h = rw (le-ltb t j h)

pub judged-goes : (j t n : ℕ) (b : Built) → t < j → n ≡ 0 → judged j t n b ≡ goes b
unfolding judged
judged-goes j t n b h e = rw (lt-ltb t j h, eq-eqb n 0 e)

pub judged-wrong : (j t n : ℕ) (b : Built) → t < j → (n ≡ 0 → ⊥) → judged j t n b ≡ wrong n
unfolding judged
judged-wrong j t n b h e = rw (lt-ltb t j h, ne_eqb n 0 e)

-- where it goes on there was no fault, and it goes on with what is rebuilt
pub judged-went : (j t n : ℕ) (x c : Built) → judged j t n x ≡ goes c → (n ≡ 0) × (x ≡ c)
unfolding judged
judged-went j t n x c e = go (ltb t j) (eqb n 0) refl e
  where
    go : (u q : Bool) → eqb n 0 ≡ q → cond u (cond q (goes x) (wrong n)) stops ≡ goes c → (n ≡ 0) × (x ≡ c)
    go true true z h = (eqb-true n 0 z, cc)
    go true false z h = let y : ◌≡◌ {A = ℕ} 0 1 = cc in absurd (omega arith)
    go false true z h = let y : ◌≡◌ {A = ℕ} 0 1 = cc in absurd (omega arith)
    go false false z h = let y : ◌≡◌ {A = ℕ} 0 1 = cc in absurd (omega arith)

-- ---- records at clock j or later, and those without a clock, change nothing

pub data Late (j : ℕ) : Record → Type 0 where
  late_other : {k : ℕ} {s : List ℕ} → Late j (other k s)
  late_timed : {k t : ℕ} {s : List ℕ} → j ≤ t → Late j (timed k t s)
  late_stack : {t q d v : ℕ} → j ≤ t → Late j (stack t q d v)
  late_ram : {t a v d : ℕ} → j ≤ t → Late j (ram t a v d)

pub replay_late : (j : ℕ) (b : Built) (rs : List Record) → All (Late j) rs → replay_records j b rs ≡ fine b
unfolding replay_records read_of
replay_late j b [] none = refl
replay_late j b (r ∷ rs) (more p h) = go r p (replay_late j b rs h)
  where
    go : (x : Record) → Late j x → replay_records j b rs ≡ fine b → replay_records j b (x ∷ rs) ≡ fine b
    go (other k s) late_other e = e
    go (timed k t s) (late_timed l) e = ap (onward b (λ x. replay_records j x rs)) (judged-stops j t (clock41 b.counts t) (built (tally_at b.counts t) b.depth b.words b.cells) l)
    go (stack t q d v) (late_stack l) e = ap (onward b (λ x. replay_records j x rs)) (judged-stops j t (first_of (fields40 d q v) (first_of (clock41 b.counts t) (stack_fault b t q d v))) (stack_turn b t d v) l)
    go (ram t a v d) (late_ram l) e = ap (onward b (λ x. replay_records j x rs)) (judged-stops j t (first_of (fields40 d a v) (first_of (clock41 b.counts t) (ram_fault b t a v d))) (ram_turn b t a v d) l)

-- ---- a record without a fault

-- no fault 40 in a word
pub word_fine : (v : ℕ) → v < p → word40 (bytes_of 8 v) ≡ 0
unfolding word40
word_fine v h =
    let s : v < 18446744073709551616 = omega arith in
    rw (is_word_of v s, lt-ltb v p h)

-- and a number of 64 bits without it is a word
pub word_nil : (v : ℕ) → v < 18446744073709551616 → word40 (bytes_of 8 v) ≡ 0 → v < p
unfolding word40
word_nil v h e = go (ltb v p) refl (rw (is_word_of v h) at e)
  where
    go : (t : Bool) → ltb v p ≡ t → cond {A = ℕ} (ltb v p) 0 40 ≡ 0 → v < p
    go true q k = ltb-true v p q
    go false q k = let z : ◌≡◌ {A = ℕ} 40 0 = rw q at k in absurd (omega arith)

fields_fine : (d q v : ℕ) → d ≤ 1 → q < p → v < p → fields40 d q v ≡ 0
unfolding fields40
fields_fine d q v h k l = first_zero _ _ (above-not d 1 40 h) ∙ first_zero _ _ (word_fine q k) ∙ word_fine v l

-- no fault 45 where there are fewer than ten, of one direction
stack45-fine : (n : Tally) (t d : ℕ) → (tally_at n t).stacks < 10 → (((tally_at n t).stacks ≡ 0 → ⊥) → (tally_at n t).way ≡ d) → stack45 n t d ≡ 0
unfolding stack45
stack45-fine n t d few way = first_zero _ _ (go (eqb (tally_at n t).stacks 0) refl) ∙ above-not ((tally_at n t).stacks + 1) 10 45 (omega arith)
  where
    go : (x : Bool) → eqb (tally_at n t).stacks 0 ≡ x → cond x 0 (differ_of d (tally_at n t).way 45) ≡ 0
    go true e = refl
    go false e = differ_not d (tally_at n t).way 45 (sym (way (eqb-false (tally_at n t).stacks 0 e)))

ram45-fine : (n : Tally) (t : ℕ) → (tally_at n t).rams < 10 → ram45 n t ≡ 0
unfolding ram45
ram45-fine n t few = above-not ((tally_at n t).rams + 1) 10 45 (omega arith)

module _ (j t : ℕ) (b : Built) (early : t < j) (rise : b.counts.last ≤ t) where
  faultless : (d q v n : ℕ) → d ≤ 1 → q < p → v < p → n ≡ 0 → first_of (fields40 d q v) (first_of (clock41 b.counts t) n) ≡ 0
  unfolding clock41
  faultless d q v n h k l e = first_zero _ _ (fields_fine d q v h k l) ∙ first_zero _ _ (above-not b.counts.last t 41 rise) ∙ e

  pub timed-read : (k : ℕ) (s : List ℕ) → read_of j b (timed k t s) ≡ goes (built (tally_at b.counts t) b.depth b.words b.cells)
  unfolding read_of clock41
  timed-read k s = judged-goes j t _ _ early (above-not b.counts.last t 41 rise)

  module _ (few : (tally_at b.counts t).rams < 10) where
    pub ram-read : (a v : ℕ) → a < p → v < p → v ≡ held b.cells a →
        read_of j b (ram t a v 0) ≡ goes (built (with_ram b.counts t) b.depth b.words b.cells)
    unfolding read_of ram_fault ram_turn
    ram-read a v h k e = judged-goes j t _ _ early (faultless 0 a v _ (omega arith) h k (first_zero _ _ (differ_not v (held b.cells a) 43 e) ∙ ram45-fine b.counts t few))

    pub ram-write : (a v : ℕ) → a < p → v < p → (stored b.cells a v).count ≤ length b.cells.addresses →
        read_of j b (ram t a v 1) ≡ goes (built (with_ram b.counts t) b.depth b.words (stored b.cells a v))
    unfolding read_of ram_fault ram_turn
    ram-write a v h k e =
        judged-goes j t _ _ early
        (faultless 1 a v _ (omega arith) h k (first_zero _ _ (ram45-fine b.counts t few) ∙ above-not (stored b.cells a v).count (length b.cells.addresses) 44 e))

  module _ (few : (tally_at b.counts t).stacks < 10) where
    pub stack-read : (((tally_at b.counts t).stacks ≡ 0 → ⊥) → (tally_at b.counts t).way ≡ 0) → (q v : ℕ) → q < p → v < p → 16 < b.depth → q + 1 ≡ b.depth →
        v ≡ get_or b.words (b.depth - 17) 0 →
        read_of j b (stack t q 0 v) ≡ goes (built (with_stack b.counts t 0) (b.depth - 1) (set b.words (b.depth - 17) 0) b.cells)
    unfolding read_of stack_fault stack_turn
    stack-read way q v h k l e f =
        judged-goes j t _ _ early
        (faultless 0 q v _ (omega arith) h k
        (first_zero _ _ (above-not 17 b.depth 42 l) ∙ first_zero _ _ (differ_not (q + 1) b.depth 42 e) ∙ first_zero _ _ (differ_not v (get_or b.words (b.depth - 17) 0) 43 f)
        ∙ stack45-fine b.counts t 0 few way))

    pub stack-write : (((tally_at b.counts t).stacks ≡ 0 → ⊥) → (tally_at b.counts t).way ≡ 1) → (q v : ℕ) → q < p → v < p → q ≡ b.depth → b.depth - 15 ≤ length b.words →
        read_of j b (stack t q 1 v) ≡ goes (built (with_stack b.counts t 1) (b.depth + 1) (set b.words (b.depth - 16) v) b.cells)
    unfolding read_of stack_fault stack_turn
    stack-write way q v h k e f =
        judged-goes j t _ _ early
        (faultless 1 q v _ (omega arith) h k
        (first_zero _ _ (differ_not q b.depth 42 e) ∙ first_zero _ _ (stack45-fine b.counts t 1 few way) ∙ above-not (b.depth - 15) (length b.words) 44 f))

pub other-read : (j k : ℕ) (b : Built) (s : List ℕ) → read_of j b (other k s) ≡ goes b
unfolding read_of
other-read j k b s = refl
