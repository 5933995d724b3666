-- A fee table: what a step costs, by its opcode. Each of the 46 opcodes lies in exactly one row; a number that is no opcode may lie in any number of them.
use Rattle.std.specs.Prelude.{ℕ, zero, suc, ◌+◌, Bool, true, false, List, [], ◌∷◌, length, get_or, eqb, ltb}
use Rattle.choices.specs.Choice.{cond, first_of, first_in, above_of, differ_of}
use Rattle.machine.specs.Lengths.{too_long}
use Rattle.machine.specs.Refusal.{Refusal, refusal, plainly}
use Rattle.machine.specs.Instruction.{decode, known_in}

-- of each row the lowest opcode, the highest, and the fee
pub record FeeTable : Type 0 where
  pub lowest : List ℕ
  pub highest : List ℕ
  pub fees : List ℕ

abbrev pub fee_table : List ℕ → List ℕ → List ℕ → FeeTable
fee_table l h f = record { lowest = l; highest = h; fees = f }

-- ---- the row of an opcode

-- whether o lies in row k
unfoldable pub in_row : FeeTable → ℕ → ℕ → Bool
in_row t o k = cond (ltb o (get_or t.lowest k 0)) false (cond (ltb (get_or t.highest k 0) o) false true)

-- in how many of the first n rows
unfoldable pub times_in : FeeTable → ℕ → ℕ → ℕ
times_in t o zero = 0
times_in t o (suc n) = times_in t o n + cond (in_row t o n) 1 0

-- the last of them, 0 where there is none
unfoldable pub last_in : FeeTable → ℕ → ℕ → ℕ
last_in t o zero = 0
last_in t o (suc n) = cond (in_row t o n) n (last_in t o n)

abbrev pub times : FeeTable → ℕ → ℕ
times t o = times_in t o (length t.fees)

-- the row that prices an opcode, counted from 0: of a good table the only one that it lies in
abbrev pub row_for : FeeTable → ℕ → ℕ
row_for t o = last_in t o (length t.fees)

abbrev pub price_of : FeeTable → ℕ → ℕ
price_of t o = get_or t.fees (row_for t o) 0

-- ---- what is wrong with a table

-- 1: a fee, of the first n, with more than 32 bits
unfoldable pub wide1 : List ℕ → ℕ → ℕ
wide1 s zero = 0
wide1 s (suc n) = first_of (wide1 s n) (above_of (get_or s n 0) 4294967295 1)

-- 1: the three slices
unfoldable pub table1 : FeeTable → ℕ
table1 t =
    first_in
    (too_long t.lowest
    ∷ too_long t.highest
    ∷ too_long t.fees
    ∷ differ_of (length t.lowest) (length t.fees) 1
    ∷ differ_of (length t.highest) (length t.fees) 1
    ∷ wide1 t.fees (length t.fees)
    ∷ [])

-- 64: a row, of the first n, whose lowest is above its highest
unfoldable pub turned64 : FeeTable → ℕ → ℕ
turned64 t zero = 0
turned64 t (suc n) = first_of (turned64 t n) (above_of (get_or t.lowest n 0) (get_or t.highest n 0) 64)

-- 64: over 64 rows, or such a row
unfoldable pub rows64 : FeeTable → ℕ
rows64 t = first_of (above_of (length t.fees) 64 64) (turned64 t (length t.fees))

-- the first of two refusals that applies; number 0 is none
abbrev pub earlier : Refusal → Refusal → Refusal
earlier a b = cond (eqb a.number 0) b a

-- the number with the lowest opcode, of those below n, of which the test holds
unfoldable pub lowest_opcode : ℕ → (ℕ → Bool) → ℕ → Refusal
lowest_opcode number test zero = plainly 0
lowest_opcode number test (suc n) =
    earlier (lowest_opcode number test n) (cond (known_in (decode n)) (cond (test n) (refusal number n 0 0) (plainly 0)) (plainly 0))

-- opcodes have seven binary digits
abbrev pub opcodes : ℕ
opcodes = 128

-- 65: an opcode in no row
unfoldable pub unpriced65 : FeeTable → Refusal
unpriced65 t = lowest_opcode 65 (λ o. eqb (times t o) 0) opcodes

-- 66: an opcode in two rows or more
unfoldable pub priced_twice66 : FeeTable → Refusal
priced_twice66 t = lowest_opcode 66 (λ o. ltb 1 (times t o)) opcodes

unfoldable pub table_fault : FeeTable → Refusal
table_fault t = earlier (plainly (rows64 t)) (earlier (unpriced65 t) (priced_twice66 t))

-- ---- a call with a table, or without

pub data Fees : Type 0 where
  unpriced : Fees
  priced : FeeTable → Fees

-- what a call finds wrong, where n is place A's number without a table: the table's 1 is tried with place A's, and 64 to 66 behind it. Number 0 is nothing
abbrev pub checked : Fees → ℕ → Refusal
checked unpriced n = plainly n
checked (priced t) n = earlier (plainly (first_of (table1 t) n)) (table_fault t)
