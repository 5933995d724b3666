-- What the code's answers about a fee table stand for.
use Rattle.std.specs.Prelude.{ℕ, ◌≤◌, ◌≡◌, true, List, length, get_or, Result, Ok, Err, IsOk, IsErrAnd, Option, Some, None, ⊤}
use Rattle.machine.specs.declared.refusal.FeeError.{FeeError}
use Rattle.machine.specs.declared.refusal.InstructionError.{InstructionError}
use Rattle.machine.specs.Refusal.{Refusal, refusal, plainly, fee_refusal, refusal_of, found_by, found}
use Rattle.machine.specs.Instruction.{decode, known_in}
use Rattle.machine.specs.FeeTable.{FeeTable, fee_table, times, row_for, price_of, earlier, unpriced65, priced_twice66, table_fault, Fees, unpriced, priced, checked}
use Rattle.machine_fees.specs.declared.fee_table.Found.{Found}
use Rattle.machine_fees.specs.declared.fee_table.LentFees.{LentFees}

abbrev pub table_of : LentFees → FeeTable
table_of t = fee_table t.lowest.now t.highest.now t.fees.now

abbrev pub fees_of : Option LentFees → Fees
fees_of None = unpriced
fees_of (Some t) = priced (table_of t)

-- what is found wrong with a table, number 0 where nothing is
abbrev pub found_fee : {A : Type 0} → Result A FeeError → Refusal
found_fee = found_by (plainly 0) fee_refusal

-- the number with the opcode that it carries, where there is one
abbrev pub carrying : ℕ → Option ℕ → Refusal
carrying n None = plainly 0
carrying n (Some o) = refusal n o 0 0

-- in how many rows an opcode lies, and the last of them, in a table with these bounds, whatever its fees
pub record FoundIn (l h : List ℕ) (o : ℕ) (r : Found) : Type 0 where
  pub times : (f : List ℕ) → length l ≡ length f → r.times ≡ times (fee_table l h f) o
  pub row : (f : List ℕ) → length l ≡ length f → r.row ≡ row_for (fee_table l h f) o

-- slices that are as long as each other, and fees of 32 bits
pub record Shaped (t : FeeTable) : Type 0 where
  pub lowest : length t.lowest ≡ length t.fees
  pub highest : length t.highest ≡ length t.fees
  pub narrow : (k : ℕ) → get_or t.fees k 0 ≤ 4294967295

-- prices by opcode: a slice for all opcodes, of 32 bits each
pub record Priceable (ps : List ℕ) : Type 0 where
  pub all : length ps ≡ 128
  pub narrow : (o : ℕ) → get_or ps o 0 ≤ 4294967295

-- and they are the table's
pub record PricesOf (t : FeeTable) (ps : List ℕ) : Type 0 where
  pub priceable : Priceable ps
  pub is : (o : ℕ) → known_in (decode o) ≡ true → get_or ps o 0 ≡ price_of t o

-- what is wrong with the opcodes of a table, and the prices, which a bad one leaves too
pub record OpcodesChecked (t : FeeTable) (r : Result (Unit {0}) FeeError) (ps : List ℕ) : Type 0 where
  pub fault : found_fee r ≡ earlier (unpriced65 t) (priced_twice66 t)
  pub prices : PricesOf t ps

-- what is wrong with a table, and the prices of one with which nothing is
pub record TableChecked (t : FeeTable) (r : Result (Unit {0}) FeeError) (ps : List ℕ) : Type 0 where
  pub fault : found_fee r ≡ table_fault t
  pub prices : IsOk r → PricesOf t ps

-- what a call with such a table relies on; without one the prices are of no use
abbrev pub Pricing : Fees → List ℕ → Type 0
Pricing unpriced ps = ⊤
Pricing (priced t) ps = PricesOf t ps

-- the same with place A's number n, with a table or without
pub record FeesChecked (f : Fees) (n : ℕ) (r : Result (Unit {0}) InstructionError) (ps : List ℕ) : Type 0 where
  pub fault : found r ≡ checked f n
  pub prices : IsOk r → Pricing f ps

-- an error found before is handed on
abbrev pub HandsOn : {E : Type 0} → (E → InstructionError → Type 0) → Result (Unit {0}) E → Result (Unit {0}) InstructionError → Type 0
HandsOn converts (Ok _) r = IsOk r
HandsOn converts (Err e) r = IsErrAnd r (converts e)

-- n is its number, and it carries no words; 0 where there is none
abbrev pub Numbered : {E : Type 0} → (E → InstructionError → Type 0) → Result (Unit {0}) E → ℕ → Type 0
Numbered converts (Ok _) n = n ≡ 0
Numbered converts (Err e) n = (x : InstructionError) → converts e x → refusal_of x ≡ plainly n

-- the same behind a check of any kind, in the place of place A
pub record FeesBehind {E : Type 0} (converts : E → InstructionError → Type 0) (f : Fees) (h : Result (Unit {0}) E) (r : Result (Unit {0}) InstructionError) (ps : List ℕ) : Type 0 where
  pub at : (n : ℕ) → Numbered converts h n → FeesChecked f n r ps
