-- What the turns of the loops over a fee table show. Assumes nothing.
use mathlib.Core.Path.{◌≡◌, refl, sym, ap, ◌∙◌}
use mathlib.Core.Bool.{Bool, true, false, true≢false}
use mathlib.Core.List.{List, []}
use Prim.Native.Nat.{ℕ, zero, suc, ◌+◌, ◌≤◌, ◌<◌}
use native.Mathlib.Numerals.{add-one}
use native.Mathlib.Omega.{arith}
use borrow.Author.Tests.{ne_eqb, eqb-true, eqb-false, ltb-true, ltb-false}
use lib.ListN.{length, get_or, set, replicate, length-set, length-replicate}
use lib.Seq.{get_or-set_same, get_or-set_other}
use lib.Dec.{eqb, ltb}
use Rattle.choices.specs.Choice.{cond, first_of, above_of}
use Rattle.machine.specs.Refusal.{refusal, plainly}
use Rattle.machine.specs.Instruction.{decode, known_in}
use Rattle.machine.specs.FeeTable.{FeeTable, fee_table, in_row, times_in, last_in, times, row_for, price_of, wide1, table1, turned64, rows64, earlier, lowest_opcode, opcodes, unpriced65, priced_twice66, table_fault, Fees, unpriced, priced, checked}
use Rattle.std.specs.Prelude.{Option, Some, None, Result, Ok, Err, IsOk, IsErrAnd}
use Rattle.std.specs.Option.{option_or}
use Rattle.std.specs.Bool.{then_some}
use Rattle.machine.specs.declared.refusal.PlaceA.{PlaceA}
use Rattle.machine.specs.declared.refusal.FeeError.{FeeError}
use Rattle.machine.specs.declared.refusal.InstructionError.{InstructionError}
use Rattle.machine.specs.declared.refusal.InstructionError.TheVariants as E
use Rattle.machine.specs.Refusal.{number_a, fee_refusal, refusal_of, found, found_a}
use Rattle.machine_fees.specs.FeeView.{found_fee, carrying, FoundIn, Shaped, Priceable, OpcodesChecked, TableChecked, FeesChecked, HandsOn, Numbered, FeesBehind}
use Rattle.machine_fees.specs.declared.fee_table.Found.{Found}
use Rattle.choices.proofs.Choice.{above-not, above-is}
use Rattle.machine.proofs.Words.{zeros_get_d}
use Rattle.machine.proofs.FeeTable.{known_low, table_lowest, table-highest, table_narrow}
use Rattle.machine.proofs.Refused.{number_a_some, fee_some, refusal_some}
use Rattle.machine_place_a.proofs.ChecksLaws.{scan_more, scan_stop}

-- ---- 1 and 64

wide_turn : (s : List ℕ) (n : ℕ) → wide1 s (suc n) ≡ first_of (wide1 s n) (above_of (get_or s n 0) 4294967295 1)
unfolding wide1
wide_turn s n = refl

pub wide_more : (s : List ℕ) (i : ℕ) → wide1 s i ≡ 0 → 0 ≡ above_of (get_or s i 0) 4294967295 1 → wide1 s (i + 1) ≡ 0
wide_more s i h l = scan_more (wide1 s) _ (wide_turn s) i h (sym l)

-- the first that is above a number, which may be any from the limit on
pub wide_found : (s : List ℕ) (i n k : ℕ) {b : ℕ} → i < n → wide1 s i ≡ 0 → 4294967295 ≤ b → k ≡ above_of (get_or s i 0) b 1 → 0 < k → k ≡ wide1 s n
wide_found s i n k {b} m h w e l = sym (scan_stop (wide1 s) _ (wide_turn s) i n k m l h (go (ltb b (get_or s i 0)) refl))
  where
    go : (t : Bool) → ltb b (get_or s i 0) ≡ t → above_of (get_or s i 0) 4294967295 1 ≡ k
    go true q =
        let g = ltb-true b (get_or s i 0) q in
        above-is (get_or s i 0) 4294967295 1 (omega arith) ∙ sym (e ∙ above-is (get_or s i 0) b 1 g)
    go false q = absurd (omega (arith, l, e, above-not (get_or s i 0) b 1 (ltb-false b (get_or s i 0) q)))

turned_turn : (t : FeeTable) (n : ℕ) → turned64 t (suc n) ≡ first_of (turned64 t n) (above_of (get_or t.lowest n 0) (get_or t.highest n 0) 64)
unfolding turned64
turned_turn t n = refl

pub turned_more : (t : FeeTable) (i : ℕ) → turned64 t i ≡ 0 → 0 ≡ above_of (get_or t.lowest i 0) (get_or t.highest i 0) 64 → turned64 t (i + 1) ≡ 0
turned_more t i h l = scan_more (turned64 t) _ (turned_turn t) i h (sym l)

pub turned_found : (t : FeeTable) (i n k : ℕ) → i < n → turned64 t i ≡ 0 → k ≡ above_of (get_or t.lowest i 0) (get_or t.highest i 0) 64 → 0 < k → k ≡ turned64 t n
turned_found t i n k m h e l = sym (scan_stop (turned64 t) _ (turned_turn t) i n k m l h (sym e))

-- ---- the fees play no part

times-same : (l h f g : List ℕ) (o n : ℕ) → times_in (fee_table l h f) o n ≡ times_in (fee_table l h g) o n
unfolding times_in in_row
times-same l h f g o zero = refl
times-same l h f g o (suc n) = rw (times-same l h f g o n)

last-same : (l h f g : List ℕ) (o n : ℕ) → last_in (fee_table l h f) o n ≡ last_in (fee_table l h g) o n
unfolding last_in in_row
last-same l h f g o zero = refl
last-same l h f g o (suc n) = rw (last-same l h f g o n)

-- ---- the rows of an opcode

-- of the first k rows o lies in n, and r is the last of them
pub record Counted (t : FeeTable) (o k n r : ℕ) : Type 0 where
  pub few : n ≤ k
  pub times : n ≡ times_in t o k
  pub row : r ≡ last_in t o k

pub count_none : (t : FeeTable) (o : ℕ) → Counted t o 0 0 0
unfolding times_in last_in
count_none t o = record { few = omega arith; times = refl; row = refl }

-- b is the test that the code makes of a row's bounds
pub count_in : (t : FeeTable) (o k n r : ℕ) (b : Bool) → Counted t o k n r → b ≡ cond (ltb o (get_or t.lowest k 0)) false (cond (ltb (get_or t.highest k 0) o) false true) → b ≡ true → Counted t o (k + 1) (n + 1) k
unfolding times_in last_in in_row
count_in t o k n r b s e h =
    let q : in_row t o k ≡ true = sym e ∙ h in
    record { few = omega (arith, s.few); times = rw (add-one k, q, ← s.times); row = rw (add-one k, q) }

pub count_out : (t : FeeTable) (o k n r : ℕ) (b : Bool) → Counted t o k n r → b ≡ cond (ltb o (get_or t.lowest k 0)) false (cond (ltb (get_or t.highest k 0) o) false true) → b ≡ false → Counted t o (k + 1) n r
unfolding times_in last_in in_row
count_out t o k n r b s e h =
    let q : in_row t o k ≡ false = sym e ∙ h in
    record { few = omega (arith, s.few); times = rw (add-one k, q, ← s.times) (omega arith); row = rw (add-one k, q) s.row }

pub count_all : (l h : List ℕ) (o k n i : ℕ) (r : Found) → Counted (fee_table l h []) o k n i → k ≡ length l → r.times ≡ n → r.row ≡ i → FoundIn l h o r
count_all l h o k n i r s u e d = record {
  times = λ f q. let w : k ≡ length f = omega arith in e ∙ s.times ∙ times-same l h [] f o k ∙ ap (times_in (fee_table l h f) o) w;
  row = λ f q. let w : k ≡ length f = omega arith in d ∙ s.row ∙ last-same l h [] f o k ∙ ap (last_in (fee_table l h f) o) w;
}

-- ---- 65 and 66

-- a number that is carried so far stays, else the next opcode is tried
carried : (k n : ℕ) (g : Option ℕ) (b : Bool) → 0 < k → carrying k (option_or g (then_some b n)) ≡ earlier (carrying k g) (cond b (refusal k n 0 0) (plainly 0))
carried k n (Some o) b h = rw (ne_eqb k 0 (λ z. omega arith))
carried k n None true h = refl
carried k n None false h = refl

-- an opcode that is none changes nothing
passed : (k : ℕ) (g : Option ℕ) → 0 < k → carrying k g ≡ earlier (carrying k g) (plainly 0)
passed k (Some o) h = rw (ne_eqb k 0 (λ z. omega arith))
passed k None h = refl

module _ (k : ℕ) (test : ℕ → Bool) (h : 0 < k) where
  lowest_known : (n : ℕ) (g r : Option ℕ) → known_in (decode n) ≡ true → carrying k g ≡ lowest_opcode k test n → r ≡ option_or g (then_some (test n) n) → carrying k r ≡ lowest_opcode k test (n + 1)
  unfolding lowest_opcode
  lowest_known n g r q e d = rw (add-one n, q, ← e, d) (carried k n g (test n) h)

  lowest_unknown : (n : ℕ) (g : Option ℕ) → known_in (decode n) ≡ false → carrying k g ≡ lowest_opcode k test n → carrying k g ≡ lowest_opcode k test (n + 1)
  unfolding lowest_opcode
  lowest_unknown n g q e = rw (add-one n, q, ← e) (passed k g h)

-- ---- the pass over the opcodes

-- behind the first n: g and w are the lowest opcode in no row and in two
pub record Passed (t : FeeTable) (g w : Option ℕ) (n : ℕ) (ps : List ℕ) : Type 0 where
  pub gap : carrying 65 g ≡ lowest_opcode 65 (λ o. eqb (times t o) 0) n
  pub twice : carrying 66 w ≡ lowest_opcode 66 (λ o. ltb 1 (times t o)) n
  pub priceable : Priceable ps
  pub is : (o : ℕ) → o < n → known_in (decode o) ≡ true → get_or ps o 0 ≡ price_of t o

pub pass_none : (t : FeeTable) (ps : List ℕ) → Priceable ps → Passed t None None 0 ps
unfolding lowest_opcode
pass_none t ps h = record { gap = refl; twice = refl; priceable = h; is = λ o l _. absurd (omega arith) }

pub pass_unknown : (t : FeeTable) (g w : Option ℕ) (n : ℕ) (ps : List ℕ) → Passed t g w n ps → known_in (decode n) ≡ false → Passed t g w (n + 1) ps
pass_unknown t g w n ps s e = record {
  gap = lowest_unknown 65 _ (omega arith) n g e s.gap;
  twice = lowest_unknown 66 _ (omega arith) n w e s.twice;
  priceable = s.priceable;
  is = is;
}
  where
    is : (o : ℕ) → o < n + 1 → known_in (decode o) ≡ true → get_or ps o 0 ≡ price_of t o
    is o l k = go (eqb o n) refl
      where
        go : (b : Bool) → eqb o n ≡ b → get_or ps o 0 ≡ price_of t o
        go true q = let y : o ≡ n = eqb-true o n q in let v : true ≡ false = sym k ∙ rw y e in let z : ◌≡◌ {A = ℕ} 0 1 = cc in absurd (omega arith)
        go false q = let y : o ≡ n → ⊥ = eqb-false o n q in s.is o (omega arith) k

set_narrow : (ps : List ℕ) (n v : ℕ) → n < length ps → v ≤ 4294967295 → ((o : ℕ) → get_or ps o 0 ≤ 4294967295) → (o : ℕ) → get_or (set ps n v) o 0 ≤ 4294967295
set_narrow ps n v l h k o = go (eqb o n) refl
  where
    go : (b : Bool) → eqb o n ≡ b → get_or (set ps n v) o 0 ≤ 4294967295
    go true q = rw (eqb-true o n q, get_or-set_same ps n v 0 l) h
    go false q = rw (get_or-set_other ps n o v 0 (eqb-false o n q)) (k o)

set_is : (t : FeeTable) (ps : List ℕ) (n v : ℕ) → n < length ps → v ≡ price_of t n → ((o : ℕ) → o < n → known_in (decode o) ≡ true → get_or ps o 0 ≡ price_of t o) →
    (o : ℕ) → o < n + 1 → known_in (decode o) ≡ true → get_or (set ps n v) o 0 ≡ price_of t o
set_is t ps n v l h k o m d = go (eqb o n) refl
  where
    go : (b : Bool) → eqb o n ≡ b → get_or (set ps n v) o 0 ≡ price_of t o
    go true q = rw (eqb-true o n q, get_or-set_same ps n v 0 l) h
    go false q = let y : o ≡ n → ⊥ = eqb-false o n q in rw (get_or-set_other ps n o v 0 y) (k o (omega arith) d)

pub pass_known :
    (t : FeeTable) (g w x y : Option ℕ) (n v : ℕ) (ps : List ℕ) (r : Found) → Shaped t → Passed t g w n ps → n < opcodes → known_in (decode n) ≡ true → FoundIn t.lowest t.highest n r →
    x ≡ option_or g (then_some (eqb r.times 0) n) → y ≡ option_or w (then_some (ltb 1 r.times) n) → v ≡ get_or t.fees r.row 0 →
    Passed t x y (n + 1) (set ps n v)
pass_known t g w x y n v ps r c s l e f hx hy hv =
    let a = s.priceable.all in
    let p : v ≡ price_of t n = hv ∙ ap (λ k. get_or t.fees k 0) (f.row t.fees c.lowest) in
    let q : r.times ≡ times t n = f.times t.fees c.lowest in
    record {
      gap = lowest_known 65 _ (omega arith) n g x e s.gap (rw q at hx);
      twice = lowest_known 66 _ (omega arith) n w y e s.twice (rw q at hy);
      priceable = record { all = length-set ps n v ∙ a; narrow = set_narrow ps n v (omega arith) (rw p (c.narrow (row_for t n))) s.priceable.narrow };
      is = set_is t ps n v (omega arith) p s.is;
    }

pub pass_all : (t : FeeTable) (g w : Option ℕ) (n : ℕ) (r : Result (Unit {0}) FeeError) (ps : List ℕ) → Passed t g w n ps → n ≡ opcodes → found_fee r ≡ earlier (carrying 65 g) (carrying 66 w) → OpcodesChecked t r ps
unfolding unpriced65 priced_twice66
pass_all t g w n r ps s q e = record {
  fault = rw q at (rw (s.gap, s.twice) at e);
  prices = record { priceable = s.priceable; is = λ o k. s.is o (rw q (known_low o k)) k };
}

-- ---- 64, then 65 and 66

not_ok : false ≡ true → ⊥
not_ok z = true≢false (sym z)

pub rows_many : (t : FeeTable) → 64 < length t.fees → plainly 64 ≡ plainly (rows64 t)
unfolding rows64 first_of
rows_many t l = rw (above-is (length t.fees) 64 64 l) refl

rows_turned : (t : FeeTable) → length t.fees ≤ 64 → length t.lowest ≡ length t.fees → rows64 t ≡ turned64 t (length t.lowest)
unfolding rows64 first_of
rows_turned t l e = rw (above-not (length t.fees) 64 64 l, e) refl

pub rows_found : (t : FeeTable) (i : ℕ) (e : FeeError) → length t.fees ≤ 64 → length t.lowest ≡ length t.fees → i < length t.lowest → turned64 t i ≡ 0 →
    fee_refusal e ≡ plainly (above_of (get_or t.lowest i 0) (get_or t.highest i 0) 64) → fee_refusal e ≡ plainly (rows64 t)
rows_found t i e l p m h d =
    let k = ap (λ x. x.number) d in
    let z : 0 < above_of (get_or t.lowest i 0) (get_or t.highest i 0) 64 = above_zero k in
    d ∙ ap plainly (turned_found t i (length t.lowest) _ m h refl z ∙ sym (rows_turned t l p))
  where
    above_zero : {n : ℕ} → (fee_refusal e).number ≡ n → 0 < n
    above_zero {n} k = omega (arith, k, fee_some e)

pub rows_end : (t : FeeTable) (i : ℕ) → length t.fees ≤ 64 → length t.lowest ≡ length t.fees → i ≤ length t.lowest → length t.lowest ≤ i → turned64 t i ≡ 0 → plainly 0 ≡ plainly (rows64 t)
rows_end t i l p u v h =
    let e : i ≡ length t.lowest = omega arith in
    ap plainly (sym (rows_turned t l p ∙ ap (turned64 t) (sym e) ∙ h))

pub table_rows : (t : FeeTable) (r : Result (Unit {0}) FeeError) (e : FeeError) (ps : List ℕ) → fee_refusal e ≡ plainly (rows64 t) → IsErrAnd r (λ x. x ≡ e) → TableChecked t r ps
unfolding table_fault
table_rows t (Ok v) e ps h d = absurd d
table_rows t (Err x) e ps h d = record {
  fault = ap fee_refusal d ∙ h ∙ rw (ne_eqb (rows64 t) 0 (λ z. omega (arith, fee_some e, ap (λ x. x.number) h))) refl;
  prices = λ z. absurd (not_ok z);
}

pub table_opcodes : (t : FeeTable) (r : Result (Unit {0}) FeeError) (ps : List ℕ) → plainly 0 ≡ plainly (rows64 t) → OpcodesChecked t r ps → TableChecked t r ps
unfolding table_fault
table_opcodes t r ps e s = record { fault = s.fault ∙ rw (← (ap (λ x. x.number) e)) refl; prices = λ _. s.prices }

-- ---- a call with a table, or without

pub shaped : (t : FeeTable) → 0 ≡ table1 t → Shaped t
shaped t e = record { lowest = table_lowest t (sym e); highest = table-highest t (sym e); narrow = λ k. table_narrow t k (sym e) }

-- an error that is handed on
refused : (r : Result (Unit {0}) InstructionError) (e : InstructionError) → IsErrAnd r (λ x. x ≡ e) → (found r ≡ refusal_of e) × (IsOk r → ⊥)
refused (Ok v) e h = absurd h
refused (Err x) e h = (ap refusal_of h, not_ok)

-- the slices' number comes before place A's
pub fees_slices : (t : FeeTable) (n : ℕ) (r : Result (Unit {0}) InstructionError) (e : PlaceA) (ps : List ℕ) → number_a e ≡ table1 t → IsErrAnd r (λ x. x ≡ E.Handed e) → FeesChecked (priced t) n r ps
unfolding refusal_of first_of
fees_slices t n r e ps h d =
    let x = refused r (E.Handed e) d in
    let k : table1 t ≡ 0 → ⊥ = λ z. omega (arith, number_a_some e, h) in
    record {
      fault = x.0 ∙ rw (h, ne_eqb (table1 t) 0 k, ne_eqb (table1 t) 0 k) refl;
      prices = λ z. absurd (x.1 z);
    }

pub fees_handed : (t : FeeTable) (n : ℕ) (r : Result (Unit {0}) InstructionError) (e : PlaceA) (ps : List ℕ) → 0 ≡ table1 t → number_a e ≡ n → IsErrAnd r (λ x. x ≡ E.Handed e) → FeesChecked (priced t) n r ps
unfolding refusal_of first_of
fees_handed t n r e ps g h d =
    let x = refused r (E.Handed e) d in
    let k : n ≡ 0 → ⊥ = λ z. omega (arith, number_a_some e, h) in
    record {
      fault = x.0 ∙ rw (h, ← g, ne_eqb n 0 k) refl;
      prices = λ z. absurd (x.1 z);
    }

pub fees_table : (t : FeeTable) (n : ℕ) (r : Result (Unit {0}) InstructionError) (e : FeeError) (ps : List ℕ) → 0 ≡ table1 t → 0 ≡ n → TableChecked t (Err e) ps → IsErrAnd r (λ x. x ≡ E.Fees e) → FeesChecked (priced t) n r ps
unfolding refusal_of first_of
fees_table t n r e ps g h s d =
    let x = refused r (E.Fees e) d in
    record {
      fault = x.0 ∙ s.fault ∙ rw (← g, ← h) refl;
      prices = λ z. absurd (x.1 z);
    }

pub fees_none : (n : ℕ) (r : Result (Unit {0}) InstructionError) (e : PlaceA) (ps : List ℕ) → number_a e ≡ n → IsErrAnd r (λ x. x ≡ E.Handed e) → FeesChecked unpriced n r ps
unfolding refusal_of
fees_none n r e ps h d =
    let x = refused r (E.Handed e) d in
    record { fault = x.0 ∙ rw h refl; prices = λ z. absurd (x.1 z) }

pub fees_unpriced : (n : ℕ) (v : Unit {0}) (ps : List ℕ) → 0 ≡ n → FeesChecked unpriced n (Ok v) ps
fees_unpriced n v ps h = record { fault = rw h refl; prices = λ _. tt }

-- what was found before, by its number
module _ {E : Type 0} (converts : E → InstructionError → Type 0) (n : ℕ) where
  pub hands_error : (h : Result (Unit {0}) E) (e : InstructionError) → HandsOn converts h (Err e) → Numbered converts h n → refusal_of e ≡ plainly n
  hands_error (Ok v) e d k = absurd (not_ok d)
  hands_error (Err x) e d k = k e d

  pub hands_nothing : (h : Result (Unit {0}) E) (v : Unit {0}) → HandsOn converts h (Ok v) → Numbered converts h n → 0 ≡ n
  hands_nothing (Ok v) u d k = sym k
  hands_nothing (Err x) u d k = absurd d

pub fees_behind : (t : FeeTable) (n : ℕ) (r : Result (Unit {0}) InstructionError) (e : InstructionError) (ps : List ℕ) → 0 ≡ table1 t → refusal_of e ≡ plainly n → IsErrAnd r (λ x. x ≡ e) → FeesChecked (priced t) n r ps
unfolding first_of
fees_behind t n r e ps g h d =
    let x = refused r e d in
    let k : n ≡ 0 → ⊥ = λ z. omega (arith, refusal_some e, ap (λ y. y.number) h) in
    record {
      fault = x.0 ∙ h ∙ rw (← g, ne_eqb n 0 k) refl;
      prices = λ z. absurd (x.1 z);
    }

-- for callers: behind place A, by its number
pub behind_a : {f : Fees} {h : Result (Unit {0}) PlaceA} {r : Result (Unit {0}) InstructionError} {ps : List ℕ} → FeesBehind (λ e x. x ≡ E.Handed e) f h r ps → FeesChecked f (found_a h) r ps
unfolding refusal_of
behind_a {f} {h} {r} {ps} s = s.at (found_a h) (go h)
  where
    go : (q : Result (Unit {0}) PlaceA) → Numbered (λ e x. x ≡ E.Handed e) q (found_a q)
    go (Ok v) = refl
    go (Err e) = λ x k. ap refusal_of k

-- for callers: nothing is wrong where the code says so
pub fees_fine : (f : Fees) (n : ℕ) (r : Result (Unit {0}) InstructionError) (ps : List ℕ) → FeesChecked f n r ps → IsOk r → (checked f n).number ≡ 0
fees_fine f n (Ok v) ps s z = ap (λ x. x.number) (sym s.fault)
fees_fine f n (Err e) ps s z = absurd (not_ok z)

-- ---- what the calls hand in

-- prices before a table is looked at
pub zeros_priceable : Priceable (replicate 128 0)
zeros_priceable = record { all = length-replicate {A = ℕ} 128 0; narrow = λ o. rw (zeros_get_d 128 o) (omega arith) }
