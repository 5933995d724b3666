-- What holds of each row of the table holds of the row of an opcode; and what its argument may be. Assumes nothing.
use mathlib.Core.Path.{◌≡◌, refl, subst}
use mathlib.Core.Bool.{Bool, true, false}
use mathlib.Core.List.{List, [], ◌∷◌}
use Prim.Native.Nat.{ℕ, zero, suc, ◌≤◌, ◌<◌}
use native.Mathlib.Omega.{arith}
use borrow.Author.Tests.{eqb-true, eqb-false, ltb-false}
use lib.ListN.{get_or}
use lib.Dec.{eqb, ltb}
use Rattle.choices.specs.Choice.{cond}
use Rattle.machine.specs.Instruction.{Row, Argument, nothing, words, place_of_stack, slots_of, table, Decoded, known, unknown, decode_in, decode, size_in, size_of, argument_fault}
use Rattle.machine.specs.PlaceA.{argument4, arguments4}
use Rattle.choices.proofs.Choice.{first-nil}

-- P of each row
abbrev pub Each : (Row → Type 0) → List Row → Type 0
Each P [] = Unit {0}
Each P (r ∷ rs) = P r × Each P rs

-- Q from P of each row, one after the other
abbrev OfEach : (Row → Type 0) → List Row → Type 0 → Type 0
OfEach P [] Q = Q
OfEach P (r ∷ rs) Q = P r → OfEach P rs Q

gather : (P : Row → Type 0) (rs : List Row) (Q : Type 0) → (Each P rs → Q) → OfEach P rs Q
gather P [] Q f = f tt
gather P (r ∷ rs) Q f = λ h. gather P rs Q (λ k. f (h, k))

pub gathered : (P : Row → Type 0) (rs : List Row) → OfEach P rs (Each P rs)
gathered P rs = gather P rs (Each P rs) (λ k. k)

each_in : (P : Row → Type 0) (rs : List Row) (op : ℕ) (q : Row) → Each P rs → decode_in rs op ≡ known q → P q
each_in P [] op q h e = let z : ◌≡◌ {A = ℕ} 0 1 = cc in absurd (omega arith)
each_in P (r ∷ rs) op q h e = go (eqb r.opcode op) e (each_in P rs op q h.1)
  where
    go : (t : Bool) → cond t (known r) (decode_in rs op) ≡ known q → (decode_in rs op ≡ known q → P q) → P q
    go true i ih = let y : r ≡ q = cc in subst P y h.0
    go false i ih = ih i

pub each-decode : (P : Row → Type 0) (op : ℕ) (r : Row) → Each P table → decode op ≡ known r → P r
unfolding decode
each-decode P op r h e = each_in P table op r h e

-- ---- sizes

size_in_lem : (d : Decoded) → size_in d ≤ 2
size_in_lem unknown = omega arith
size_in_lem (known r) = go r.argument
  where
    go : (a : Argument) → slots_of a ≤ 2
    go Argument.nothing = omega arith
    go Argument.words = omega arith
    go Argument.place_of_stack = omega arith
    go Argument.any = omega arith

pub size_small : (op : ℕ) → size_of op ≤ 2
unfolding size_of
size_small op = size_in_lem (decode op)

-- ---- arguments

pub nothing_allowed : (n : ℕ) → argument_fault nothing n ≡ 0 → n ≡ 0
nothing_allowed n h = go (eqb n 0) refl h
  where
    go : (t : Bool) → eqb n 0 ≡ t → ◌≡◌ {A = ℕ} (cond t 0 4) 0 → n ≡ 0
    go true e z = eqb-true n 0 e
    go false e z = absurd (omega arith)

pub words_allowed : (n : ℕ) → argument_fault words n ≡ 0 → n ≤ 5
words_allowed n h = go (ltb n 1) (ltb 5 n) refl h
  where
    go : (t u : Bool) → ltb 5 n ≡ u → ◌≡◌ {A = ℕ} (cond t 4 (cond u 4 0)) 0 → n ≤ 5
    go true u e z = absurd (omega arith)
    go false true e z = absurd (omega arith)
    go false false e z = ltb-false 5 n e

pub place_allowed : (n : ℕ) → argument_fault place_of_stack n ≡ 0 → n ≤ 15
place_allowed n h = go (ltb 15 n) refl h
  where
    go : (t : Bool) → ltb 15 n ≡ t → ◌≡◌ {A = ℕ} (cond t 4 0) 0 → n ≤ 15
    go true e z = absurd (omega arith)
    go false e z = ltb-false 15 n e

-- no fault over the first n slots is none in each of them
pub argument-at : (s a : List ℕ) (n i : ℕ) → i < n → arguments4 s a n ≡ 0 → argument4 (decode (get_or s i 0)) (get_or a i 0) ≡ 0
unfolding arguments4
argument-at s a zero i h e = absurd (omega arith)
argument-at s a (suc n) i h e = go (eqb i n) refl (λ l. argument-at s a n i l (first-nil _ _ e).0)
  where
    go : (t : Bool) → eqb i n ≡ t → (i < n → argument4 (decode (get_or s i 0)) (get_or a i 0) ≡ 0) → argument4 (decode (get_or s i 0)) (get_or a i 0) ≡ 0
    go true q ih = rw (eqb-true i n q) (first-nil _ _ e).1
    go false q ih = let y : i ≡ n → ⊥ = eqb-false i n q in ih (omega arith)
