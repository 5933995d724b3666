-- Replay: a log is read record by record up to a clock, and rebuilds depth, the words below the top sixteen, and RAM.
use Rattle.std.specs.Prelude.{ℕ, zero, suc, ◌+◌, ◌-◌, List, [], ◌∷◌, length, get_or, set, eqb, ltb}
use Rattle.choices.specs.Choice.{cond, first_of, first_in, above_of, differ_of}
use Rattle.machine.specs.Words.{zeros_from}
use Rattle.machine.specs.Ram.{Cells, held, stored, cells1, cells2, cells5}
use Rattle.machine.specs.Bytes.{bytes_of, is_word}
use Rattle.machine.specs.Records.{Record, other, timed, stack, ram, Parsed, ended, broken, found, parse}
use Rattle.machine.specs.PlaceA.{too_long, revision4}

-- what has been read at the last clock: the direction of its stack records, and how many records are of the stack and of RAM. A Tip5 or
-- U32 record with a clock moves the last clock and is not counted
pub record Tally : Type 0 where
  pub last : ℕ
  pub way : ℕ
  pub stacks : ℕ
  pub rams : ℕ

abbrev pub tally : ℕ → ℕ → ℕ → ℕ → Tally
tally t w n m = record { last = t; way = w; stacks = n; rams = m }

-- at clock t: counting starts anew where that is not the last one
unfoldable pub tally_at : Tally → ℕ → Tally
tally_at n t = cond (eqb n.last t) n (tally t 0 0 0)

-- and one record more
unfoldable pub with_stack : Tally → ℕ → ℕ → Tally
with_stack n t d = tally t d ((tally_at n t).stacks + 1) (tally_at n t).rams

unfoldable pub with_ram : Tally → ℕ → Tally
with_ram n t = tally t (tally_at n t).way (tally_at n t).stacks ((tally_at n t).rams + 1)

-- what replay has rebuilt so far, and what it has read at the last clock
pub record Built : Type 0 where
  pub counts : Tally
  pub depth : ℕ
  pub words : List ℕ
  pub cells : Cells

abbrev pub built : Tally → ℕ → List ℕ → Cells → Built
built n d s c = record { counts = n; depth = d; words = s; cells = c }

-- before the first record
abbrev pub started : List ℕ → Cells → Built
started s c = built (tally 0 0 0 0) 16 s c

-- ---- the faults of a record, in order; 0 where there is none

-- 40: eight bytes that are no word's, compared with those of p byte by byte from the top
unfoldable pub word40 : List ℕ → ℕ
word40 b = cond (is_word b) 0 40

-- 40: a direction above 1, or one of two numbers whose eight bytes are no word's
unfoldable pub fields40 : ℕ → ℕ → ℕ → ℕ
fields40 d q v = first_of (above_of d 1 40) (first_of (word40 (bytes_of 8 q)) (word40 (bytes_of 8 v)))

-- 41: clocks must not fall
unfoldable pub clock41 : Tally → ℕ → ℕ
clock41 n t = above_of n.last t 41

-- 'within one clock the stack records must all go one way and number at most ten, and RAM records at most ten'
abbrev pub most_records : ℕ
most_records = 10

-- 45: a stack record of direction d at clock t, where the first one there has the other, or there are ten
unfoldable pub stack45 : Tally → ℕ → ℕ → ℕ
stack45 n t d = first_of (cond (eqb (tally_at n t).stacks 0) 0 (differ_of d (tally_at n t).way 45)) (above_of ((tally_at n t).stacks + 1) most_records 45)

-- 45: a RAM record at clock t, where there are ten
unfoldable pub ram45 : Tally → ℕ → ℕ
ram45 n t = above_of ((tally_at n t).rams + 1) most_records 45

-- 42 to 45 of a stack record at clock t with pointer q, direction and value v. A read needs depth above 16 and the pointer below it,
-- and the word that stands there; a write needs the depth as its pointer, and room
unfoldable pub stack_fault : Built → ℕ → ℕ → ℕ → ℕ → ℕ
stack_fault b t q zero v =
    first_of (above_of 17 b.depth 42) (first_of (differ_of (q + 1) b.depth 42) (first_of (differ_of v (get_or b.words (b.depth - 17) 0) 43) (stack45 b.counts t 0)))
stack_fault b t q (suc d) v = first_of (differ_of q b.depth 42) (first_of (stack45 b.counts t (suc d)) (above_of (b.depth - 15) (length b.words) 44))

-- 43 to 45 of a RAM record: a read needs the word held, a write a cell
unfoldable pub ram_fault : Built → ℕ → ℕ → ℕ → ℕ → ℕ
ram_fault b t a v zero = first_of (differ_of v (held b.cells a) 43) (ram45 b.counts t)
ram_fault b t a v (suc d) = first_of (ram45 b.counts t) (above_of (stored b.cells a v).count (length b.cells.addresses) 44)

-- ---- what a record without a fault makes of it

-- a dropped word becomes 0
unfoldable pub stack_turn : Built → ℕ → ℕ → ℕ → Built
stack_turn b t zero v = built (with_stack b.counts t 0) (b.depth - 1) (set b.words (b.depth - 17) 0) b.cells
stack_turn b t (suc d) v = built (with_stack b.counts t (suc d)) (b.depth + 1) (set b.words (b.depth - 16) v) b.cells

unfoldable pub ram_turn : Built → ℕ → ℕ → ℕ → ℕ → Built
ram_turn b t a v zero = built (with_ram b.counts t) b.depth b.words b.cells
ram_turn b t a v (suc d) = built (with_ram b.counts t) b.depth b.words (stored b.cells a v)

-- ---- one record

pub data Verdict : Type 0 where
  -- its clock is j or later
  stops : Verdict
  wrong : ℕ → Verdict
  goes : Built → Verdict

-- the clock t stops the reading, or the fault n ends it, or it goes on with b
unfoldable pub judged : ℕ → ℕ → ℕ → Built → Verdict
judged j t n b = cond (ltb t j) (cond (eqb n 0) (goes b) (wrong n)) stops

unfoldable pub read_of : ℕ → Built → Record → Verdict
read_of j b (other k s) = goes b
read_of j b (timed k t s) = judged j t (clock41 b.counts t) (built (tally_at b.counts t) b.depth b.words b.cells)
read_of j b (stack t q d v) = judged j t (first_of (fields40 d q v) (first_of (clock41 b.counts t) (stack_fault b t q d v))) (stack_turn b t d v)
read_of j b (ram t a v d) = judged j t (first_of (fields40 d a v) (first_of (clock41 b.counts t) (ram_fault b t a v d))) (ram_turn b t a v d)

-- ---- all records

pub data Went : Type 0 where
  bad : ℕ → Went
  fine : Built → Went

-- what follows a record
abbrev pub onward : Built → (Built → Went) → Verdict → Went
onward b k stops = fine b
onward b k (wrong n) = bad n
onward b k (goes x) = k x

unfoldable pub replay_records : ℕ → Built → List Record → Went
replay_records j b [] = fine b
replay_records j b (r ∷ rs) = onward b (λ x. replay_records j x rs) (read_of j b r)

-- what follows a reading of bytes
abbrev pub on_parsed : Built → (Record → List ℕ → Went) → Parsed → Went
on_parsed b k ended = fine b
on_parsed b k broken = bad 40
on_parsed b k (found r t) = k r t

-- over the bytes of a log of revision v; as many records at most as bytes
unfoldable pub replay_bytes : ℕ → ℕ → ℕ → Built → List ℕ → Went
replay_bytes v zero j b s = fine b
replay_bytes v (suc f) j b s = on_parsed b (λ r t. onward b (λ x. replay_bytes v f j x t) (read_of j b r)) (parse v s)

-- ---- the call

-- number, depth and cell count, and what stands in the stack slice and the RAM slices at its end
pub record Replayed : Type 0 where
  pub number : ℕ
  pub depth : ℕ
  pub count : ℕ
  pub words : List ℕ
  pub addresses : List ℕ
  pub values : List ℕ

abbrev pub gives : ℕ → List ℕ → Cells → Replayed
gives d s c = record { number = 0; depth = d; count = c.count; words = s; addresses = c.addresses; values = c.values }

-- a refusal gives zeros and leaves the slices as they were
abbrev pub refuses : ℕ → List ℕ → Cells → Replayed
refuses n s c = record { number = n; depth = 0; count = 0; words = s; addresses = c.addresses; values = c.values }

abbrev pub finished : Went → List ℕ → Cells → Replayed
finished (bad n) s c = refuses n s c
finished (fine b) s c = gives b.depth b.words b.cells

-- place A; 'the stack slice must be all 0, otherwise 5'
unfoldable pub replay_a : ℕ → List ℕ → Cells → List ℕ → ℕ
replay_a v log c s = first_in (first_in (too_long log ∷ cells1 c ∷ too_long s ∷ []) ∷ cells2 c ∷ revision4 v ∷ cells5 c ∷ zeros_from s 0 (length s) ∷ [])

-- a revision and a log of it, the opening RAM, a stack slice, a clock
unfoldable pub replay_of : ℕ → List ℕ → Cells → List ℕ → ℕ → Replayed
replay_of v log c s j =
    cond (eqb (replay_a v log c s) 0)
    (finished (replay_bytes v (length log) j (started s c) log) s c)
    (refuses (replay_a v log c s) s c)
