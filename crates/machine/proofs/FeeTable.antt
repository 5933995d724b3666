-- What a fee table with which nothing is wrong is: one row to an opcode, prices of 32 bits. Assumes nothing.
use mathlib.Core.Path.{◌≡◌, refl, sym, ◌∙◌}
use mathlib.Core.Bool.{Bool, true, false}
use mathlib.Core.List.{List, [], ◌∷◌}
use Prim.Native.Nat.{ℕ, zero, suc, ◌+◌, ◌≤◌, ◌<◌}
use native.Mathlib.Omega.{arith}
use borrow.Author.Tests.{eq-eqb, eqb-true, eqb-false, ltb-true, ltb-false}
use lib.ListN.{length, get_or, get_or-eq_default}
use lib.Dec.{eqb, ltb}
use Rattle.choices.specs.Choice.{cond, first_of, above_of}
use Rattle.machine.specs.Refusal.{Refusal, refusal, plainly}
use Rattle.machine.specs.Instruction.{Row, table, known, decode_in, decode, known_in}
use Rattle.machine.specs.FeeTable.{FeeTable, fee_table, in_row, times_in, last_in, times, row_for, price_of, wide1, table1, turned64, rows64, earlier, lowest_opcode, opcodes, unpriced65, priced_twice66, table_fault, Fees, unpriced, priced, checked}
use Rattle.machine.specs.Fee.{price_in}
use Rattle.choices.proofs.Choice.{first_zero, first-nil, above-nil, differ_nil}

-- ---- opcodes have seven binary digits

abbrev all_low : List Row → Bool
all_low [] = true
all_low (r ∷ rs) = cond (ltb r.opcode opcodes) (all_low rs) false

rows_low : (rs : List Row) (o : ℕ) → all_low rs ≡ true → known_in (decode_in rs o) ≡ true → o < opcodes
rows_low [] o h e = let z : ◌≡◌ {A = ℕ} 0 1 = cc in absurd (omega arith)
rows_low (r ∷ rs) o h e = go (ltb r.opcode opcodes) (eqb r.opcode o) refl refl h e (rows_low rs o)
  where
    go : (t u : Bool) → ltb r.opcode opcodes ≡ t → eqb r.opcode o ≡ u → cond t (all_low rs) false ≡ true → known_in (cond u (known r) (decode_in rs o)) ≡ true →
        (all_low rs ≡ true → known_in (decode_in rs o) ≡ true → o < opcodes) → o < opcodes
    go true true a b h e ih = omega (arith, ltb-true r.opcode opcodes a, eqb-true r.opcode o b)
    go true false a b h e ih = ih h e
    go false u a b h e ih = let z : ◌≡◌ {A = ℕ} 0 1 = cc in absurd (omega arith)

pub known_low : (o : ℕ) → known_in (decode o) ≡ true → o < opcodes
unfolding decode table
known_low o e = rows_low table o refl e

-- ---- nothing is found

-- a test t of each place, and the first number that it gives over the first so many: none over all is none at each
none-at : (f t : ℕ → ℕ) → ((n : ℕ) → f (suc n) ≡ first_of (f n) (t n)) → (n i : ℕ) → i < n → f n ≡ 0 → t i ≡ 0
none-at f t turn zero i l e = absurd (omega arith)
none-at f t turn (suc n) i l e = go (eqb i n) refl (λ m. none-at f t turn n i m (first-nil _ _ (sym (turn n) ∙ e)).0)
  where
    go : (b : Bool) → eqb i n ≡ b → (i < n → t i ≡ 0) → t i ≡ 0
    go true q ih = rw (eqb-true i n q) (first-nil _ _ (sym (turn n) ∙ e)).1
    go false q ih = let y : i ≡ n → ⊥ = eqb-false i n q in ih (omega arith)

pub earlier-nil : (a b : Refusal) → (earlier a b).number ≡ 0 → (a.number ≡ 0) × (b.number ≡ 0)
earlier-nil a b e = go (eqb a.number 0) refl e
  where
    go : (t : Bool) → eqb a.number 0 ≡ t → (cond t b a).number ≡ 0 → (a.number ≡ 0) × (b.number ≡ 0)
    go true q h = (eqb-true a.number 0 q, h)
    go false q h = absurd (eqb-false a.number 0 q h)

earlier-right : (a b : Refusal) → a.number ≡ 0 → earlier a b ≡ b
earlier-right a b h = rw (eq-eqb a.number 0 h)

-- what lowest_opcode tries of one opcode
abbrev one_opcode : ℕ → (ℕ → Bool) → ℕ → Refusal
one_opcode number test n = cond (known_in (decode n)) (cond (test n) (refusal number n 0 0) (plainly 0)) (plainly 0)

-- where that is nothing, the test does not hold, and nothing is carried
one_nil : (k : ℕ) (test : ℕ → Bool) (o : ℕ) → 0 < k → (one_opcode k test o).number ≡ 0 → (known_in (decode o) ≡ true → test o ≡ false) × (one_opcode k test o ≡ plainly 0)
one_nil k test o l e = go (known_in (decode o)) (test o) e
  where
    go : (t u : Bool) → (cond t (cond u (refusal k o 0 0) (plainly 0)) (plainly 0)).number ≡ 0 → (t ≡ true → u ≡ false) × (cond t (cond u (refusal k o 0 0) (plainly 0)) (plainly 0) ≡ plainly 0)
    go true true b = let z : k ≡ 0 = b in absurd (omega arith)
    go true false b = (λ _. refl, refl)
    go false u b = (λ a. let z : ◌≡◌ {A = ℕ} 0 1 = cc in absurd (omega arith), refl)

-- a number that is not found holds of no opcode
lowest_nil : (k : ℕ) (test : ℕ → Bool) (n o : ℕ) → 0 < k → (lowest_opcode k test n).number ≡ 0 → o < n → known_in (decode o) ≡ true → test o ≡ false
unfolding lowest_opcode
lowest_nil k test zero o l e m h = absurd (omega arith)
lowest_nil k test (suc n) o l e m h = go (eqb o n) refl (λ j. lowest_nil k test n o l (earlier-nil _ _ e).0 j h)
  where
    go : (b : Bool) → eqb o n ≡ b → (o < n → test o ≡ false) → test o ≡ false
    go true w ih = let y : n ≡ o = sym (eqb-true o n w) in (one_nil k test o l (rw y at (earlier-nil (lowest_opcode k test n) (one_opcode k test n) e).1)).0 h
    go false w ih = let y : o ≡ n → ⊥ = eqb-false o n w in ih (omega arith)

-- and nothing is carried then
lowest_plain : (k : ℕ) (test : ℕ → Bool) (n : ℕ) → 0 < k → (lowest_opcode k test n).number ≡ 0 → lowest_opcode k test n ≡ plainly 0
unfolding lowest_opcode
lowest_plain k test zero l e = refl
lowest_plain k test (suc n) l e =
    let q = earlier-nil (lowest_opcode k test n) (one_opcode k test n) e in
    earlier-right (lowest_opcode k test n) (one_opcode k test n) q.0 ∙ (one_nil k test n l q.1).1

-- ---- a good table

-- each test finds nothing
record Good (t : FeeTable) : Type 0 where
  rows : rows64 t ≡ 0
  gap : (unpriced65 t).number ≡ 0
  twice : (priced_twice66 t).number ≡ 0

good : (t : FeeTable) → (table_fault t).number ≡ 0 → Good t
unfolding table_fault
good t e =
    let a = earlier-nil (plainly (rows64 t)) (earlier (unpriced65 t) (priced_twice66 t)) e in
    let b = earlier-nil (unpriced65 t) (priced_twice66 t) a.1 in
    record { rows = a.0; gap = b.0; twice = b.1 }

pub good-row : (t : FeeTable) (o : ℕ) → (table_fault t).number ≡ 0 → known_in (decode o) ≡ true → times t o ≡ 1
unfolding unpriced65 priced_twice66
good-row t o e h =
    let g = good t e in
    let l = known_low o h in
    let a : eqb (times t o) 0 ≡ false = lowest_nil 65 (λ o. eqb (times t o) 0) opcodes o (omega arith) g.gap l h in
    let b : ltb 1 (times t o) ≡ false = lowest_nil 66 (λ o. ltb 1 (times t o)) opcodes o (omega arith) g.twice l h in
    let y : times t o ≡ 0 → ⊥ = eqb-false (times t o) 0 a in
    omega (arith, ltb-false 1 (times t o) b)

-- ---- one row to an opcode

-- o lies in one row, and it is the one that prices it
pub record OneRow (t : FeeTable) (o : ℕ) : Type 0 where
  pub row : ℕ
  pub within : row < length t.fees
  pub lies : in_row t o row ≡ true
  pub named : row_for t o ≡ row
  pub only : (j : ℕ) → j < length t.fees → in_row t o j ≡ true → j ≡ row

-- where o does not lie in row n, a row up to there in which it lies is before it
other_row : (t : FeeTable) (o n j : ℕ) → in_row t o n ≡ false → j < suc n → in_row t o j ≡ true → j < n
other_row t o n j e l h = go (eqb j n) refl
  where
    go : (b : Bool) → eqb j n ≡ b → j < n
    go true q = let y : j ≡ n = eqb-true j n q in let w : true ≡ false = sym h ∙ rw y e in let z : ◌≡◌ {A = ℕ} 0 1 = cc in omega arith
    go false q = let y : j ≡ n → ⊥ = eqb-false j n q in omega arith

-- in none of the first n rows
none_in : (t : FeeTable) (o n j : ℕ) → times_in t o n ≡ 0 → j < n → in_row t o j ≡ true → ⊥
unfolding times_in
none_in t o zero j e l h = absurd (omega arith)
none_in t o (suc n) j e l h = go (in_row t o n) refl e (none_in t o n j)
  where
    go : (b : Bool) → in_row t o n ≡ b → times_in t o n + cond b 1 0 ≡ 0 → (times_in t o n ≡ 0 → j < n → in_row t o j ≡ true → ⊥) → ⊥
    go true q w ih = omega arith
    go false q w ih = ih (omega arith) (other_row t o n j q l h) h

-- in one of the first n
record OneIn (t : FeeTable) (o n k : ℕ) : Type 0 where
  within : k < n
  lies : in_row t o k ≡ true
  only : (j : ℕ) → j < n → in_row t o j ≡ true → j ≡ k

last_only : (t : FeeTable) (o n : ℕ) → times_in t o n ≡ 0 → (j : ℕ) → j < suc n → in_row t o j ≡ true → j ≡ n
last_only t o n e j l h = go (eqb j n) refl
  where
    go : (b : Bool) → eqb j n ≡ b → j ≡ n
    go true q = eqb-true j n q
    go false q = let y : j ≡ n → ⊥ = eqb-false j n q in absurd (none_in t o n j e (omega arith) h)

one_in : (t : FeeTable) (o n : ℕ) → times_in t o n ≡ 1 → OneIn t o n (last_in t o n)
unfolding times_in last_in
one_in t o zero e = absurd (omega arith)
one_in t o (suc n) e = go (in_row t o n) refl e (one_in t o n)
  where
    go : (b : Bool) → in_row t o n ≡ b → times_in t o n + cond b 1 0 ≡ 1 → (times_in t o n ≡ 1 → OneIn t o n (last_in t o n)) → OneIn t o (suc n) (cond b n (last_in t o n))
    go true q w ih = record { within = omega arith; lies = q; only = last_only t o n (omega arith) }
    go false q w ih =
        let i = ih (omega arith) in
        record { within = omega (arith, i.within); lies = i.lies; only = λ j l h. i.only j (other_row t o n j q l h) h }

pub one_row_lem : (t : FeeTable) (o : ℕ) → (table_fault t).number ≡ 0 → known_in (decode o) ≡ true → OneRow t o
one_row_lem t o e h =
    let i = one_in t o (length t.fees) (good-row t o e h) in
    record { row = row_for t o; within = i.within; lies = i.lies; named = refl; only = i.only }

-- ---- the rows of a good table

pub good-few : (t : FeeTable) → (table_fault t).number ≡ 0 → length t.fees ≤ 64
unfolding rows64
good-few t e = above-nil (length t.fees) 64 64 (omega arith) (first-nil _ _ (good t e).rows).0

pub good_bounds : (t : FeeTable) (k : ℕ) → (table_fault t).number ≡ 0 → k < length t.fees → get_or t.lowest k 0 ≤ get_or t.highest k 0
unfolding rows64 turned64
good_bounds t k e l =
    above-nil (get_or t.lowest k 0) (get_or t.highest k 0) 64 (omega arith)
    (none-at (turned64 t) (λ i. above_of (get_or t.lowest i 0) (get_or t.highest i 0) 64) (λ n. refl) (length t.fees) k l (first-nil _ _ (good t e).rows).1)

-- ---- the three slices

-- beyond the end there is 0
wide_whole : (s : List ℕ) (k : ℕ) → wide1 s (length s) ≡ 0 → get_or s k 0 ≤ 4294967295
unfolding wide1
wide_whole s k e = go (ltb k (length s)) refl
  where
    go : (b : Bool) → ltb k (length s) ≡ b → get_or s k 0 ≤ 4294967295
    go true q = above-nil (get_or s k 0) 4294967295 1 (omega arith) (none-at (wide1 s) (λ i. above_of (get_or s i 0) 4294967295 1) (λ n. refl) (length s) k (ltb-true k (length s) q) e)
    go false q = omega (arith, get_or-eq_default s 0 (ltb-false k (length s) q))

-- the tests behind those of each slice alone
equal_nil : (t : FeeTable) → table1 t ≡ 0 → (length t.lowest ≡ length t.fees) × (length t.highest ≡ length t.fees) × (wide1 t.fees (length t.fees) ≡ 0)
unfolding table1
equal_nil t e =
    let a = first-nil _ _ (first-nil _ _ (first-nil _ _ (first-nil _ _ e).1).1).1 in
    let b = first-nil _ _ a.1 in
    (differ_nil _ _ 1 (omega arith) a.0, differ_nil _ _ 1 (omega arith) b.0, b.1)

pub table_lowest : (t : FeeTable) → table1 t ≡ 0 → length t.lowest ≡ length t.fees
table_lowest t e = (equal_nil t e).0

pub table-highest : (t : FeeTable) → table1 t ≡ 0 → length t.highest ≡ length t.fees
table-highest t e = (equal_nil t e).1

pub table_narrow : (t : FeeTable) (k : ℕ) → table1 t ≡ 0 → get_or t.fees k 0 ≤ 4294967295
table_narrow t k e = wide_whole t.fees k (equal_nil t e).2

-- ---- a call with a table, or without, that finds nothing

pub checked-number : (f : Fees) (n : ℕ) → (checked f n).number ≡ 0 → n ≡ 0
checked-number unpriced n e = e
checked-number (priced t) n e = (first-nil _ _ (earlier-nil _ _ e).0).1

pub checked-slices : (t : FeeTable) (n : ℕ) → (checked (priced t) n).number ≡ 0 → table1 t ≡ 0
checked-slices t n e = (first-nil _ _ (earlier-nil _ _ e).0).0

pub checked-table : (t : FeeTable) (n : ℕ) → (checked (priced t) n).number ≡ 0 → (table_fault t).number ≡ 0
checked-table t n e = (earlier-nil (plainly (first_of (table1 t) n)) (table_fault t) e).1

fault_plain : (t : FeeTable) → (table_fault t).number ≡ 0 → table_fault t ≡ plainly 0
unfolding table_fault unpriced65 priced_twice66
fault_plain t e =
    let g = good t e in
    earlier-right (plainly (rows64 t)) _ g.rows
    ∙ earlier-right (unpriced65 t) _ g.gap
    ∙ lowest_plain 66 (λ o. ltb 1 (times t o)) opcodes (omega arith) g.twice

-- a table that one call finds good is good in every call: it answers as it would without one
pub checked-good : (f : Fees) (k n : ℕ) → (checked f k).number ≡ 0 → checked f n ≡ plainly n
checked-good unpriced k n e = refl
checked-good (priced t) k n e = rw (first_zero (table1 t) n (checked-slices t k e), fault_plain t (checked-table t k e)) (go (eqb n 0) refl)
  where
    go : (b : Bool) → eqb n 0 ≡ b → cond b (plainly 0) (plainly n) ≡ plainly n
    go true q = rw (eqb-true n 0 q)
    go false q = refl

-- ---- prices

pub price_narrow : (t : FeeTable) (o : ℕ) → ((k : ℕ) → get_or t.fees k 0 ≤ 4294967295) → price_of t o ≤ 4294967295
price_narrow t o h = h (row_for t o)

pub checked_narrow : (t : FeeTable) (n k : ℕ) → (checked (priced t) n).number ≡ 0 → get_or t.fees k 0 ≤ 4294967295
checked_narrow t n k e = table_narrow t k (checked-slices t n e)

-- what a step may cost in a call that goes on
pub checked_price : (f : Fees) (n o : ℕ) → (checked f n).number ≡ 0 → price_in f o ≤ 4294967295
checked_price unpriced n o e = omega arith
checked_price (priced t) n o e = price_narrow t o (λ k. checked_narrow t n k e)

-- ---- examples

-- a table of no rows
example_none : table_fault (fee_table [] [] []) ≡ refusal 65 0 0 0
unfolding table_fault rows64 turned64 unpriced65 priced_twice66 lowest_opcode times_in in_row decode table first_of above_of
example_none = refl

-- opcode 88 in no row comes before opcode 1 in two
example_both : table_fault (fee_table (0 ∷ 1 ∷ []) (1 ∷ 87 ∷ []) (5 ∷ 7 ∷ [])) ≡ refusal 65 88 0 0
unfolding table_fault rows64 turned64 unpriced65 priced_twice66 lowest_opcode times_in in_row decode table first_of above_of
example_both = refl

-- 5 is no opcode and may lie in two rows
example_good : table_fault (fee_table (0 ∷ 5 ∷ []) (5 ∷ 88 ∷ []) (5 ∷ 7 ∷ [])) ≡ plainly 0
unfolding table_fault rows64 turned64 unpriced65 priced_twice66 lowest_opcode times_in in_row decode table first_of above_of
example_good = refl

example_twice : table_fault (fee_table (0 ∷ 5 ∷ 88 ∷ []) (6 ∷ 88 ∷ 200 ∷ []) (5 ∷ 7 ∷ 9 ∷ [])) ≡ refusal 66 6 0 0
unfolding table_fault rows64 turned64 unpriced65 priced_twice66 lowest_opcode times_in in_row decode table first_of above_of
example_twice = refl

example_turned : table_fault (fee_table (0 ∷ 5 ∷ []) (5 ∷ 4 ∷ []) (5 ∷ 7 ∷ [])) ≡ plainly 64
unfolding table_fault rows64 turned64 unpriced65 priced_twice66 lowest_opcode times_in in_row decode table first_of above_of
example_turned = refl
