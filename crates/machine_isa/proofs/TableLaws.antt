-- What a `match` on an opcode shows of the table: one law for an arm, one for what is left. Assumes nothing.
use mathlib.Core.Path.{◌≡◌, refl, ap}
use mathlib.Core.Logic.{inl, inr, ◌⊎◌}
use mathlib.Core.Bool.{Bool, true, false}
use mathlib.Core.List.{List, [], ◌∷◌}
use Prim.Native.Nat.{ℕ, suc, ◌<◌}
use native.Mathlib.Omega.{arith}
use borrow.Author.Tests.{eqb-true, ltb-false}
use lib.Dec.{T, eqb, ltb, lit<, leb→le}
use Rattle.std.proofs.Common.{Option, Some, None, is_some}
use Rattle.choices.specs.Choice.{cond}
use Rattle.machine.specs.Instruction.{Argument, nothing, words, place_of_stack, any, Row, Decoded, known, unknown, known_in, decode_in, argument_fault, Change, grows, shrinks, grows_by_argument, shrinks_by_argument, grown_by, shrunk_by, table, decode, size_in, slots_of}
use Rattle.machine_isa.specs.InstructionView.{argument_in, change_in, grown_in, shrunk_in}
use Rattle.machine.specs.PlaceA.{argument4}

-- x is one of an arm's numbers
abbrev pub OneOf : ℕ → List ℕ → Type 0
OneOf x [] = ⊥
OneOf x (k ∷ []) = x ≡ k
OneOf x (k ∷ l ∷ ks) = (x ≡ k) ⊎ OneOf x (l ∷ ks)

-- x is in no arm; the last arm stands first
abbrev pub Rest : ℕ → List (List ℕ) → Type 0
Rest x [] = Unit
Rest x (ks ∷ arms) = Rest x arms × (OneOf x ks → ⊥)

-- f gives a at each of an arm's numbers, by a test that tells its values apart
module _ {A : Type 0} (same : A → A → Bool) (sound : (x y : A) → same x y ≡ true → x ≡ y) (f : ℕ → A) (a : A) where
  abbrev pub gives : List ℕ → Bool
  gives [] = true
  gives (k ∷ ks) = cond (same (f k) a) (gives ks) false

  gives_head : (k : ℕ) (ks : List ℕ) → T (gives (k ∷ ks)) → (f k ≡ a) × T (gives ks)
  gives_head k ks t = go (same (f k) a) refl t
    where
      go : (b : Bool) → same (f k) a ≡ b → T (cond b (gives ks) false) → (f k ≡ a) × T (gives ks)
      go true e u = (sound (f k) a e, u)
      go false e u = absurd u

  pub arm : (ks : List ℕ) → T (gives ks) → (x : ℕ) → OneOf x ks → f x ≡ a
  arm [] t x h = absurd h
  arm (k ∷ []) t x h = rw h (gives_head k [] t).0
  arm (k ∷ l ∷ ks) t x (inl h) = rw h (gives_head k (l ∷ ks) t).0
  arm (k ∷ l ∷ ks) t x (inr h) = arm (l ∷ ks) (gives_head k (l ∷ ks) t).1 x h

-- ---- what is left

abbrev among : ℕ → List ℕ → Bool
among x [] = false
among x (k ∷ ks) = cond (eqb x k) true (among x ks)

abbrev in_arms : ℕ → List (List ℕ) → Bool
in_arms x [] = false
in_arms x (ks ∷ arms) = cond (among x ks) true (in_arms x arms)

one_more : (x k : ℕ) (ks : List ℕ) → OneOf x ks → OneOf x (k ∷ ks)
one_more x k [] h = absurd h
one_more x k (l ∷ ks) h = inr h

one_here : (x k : ℕ) (ks : List ℕ) → x ≡ k → OneOf x (k ∷ ks)
one_here x k [] h = h
one_here x k (l ∷ ks) h = inl h

among_one : (x : ℕ) (ks : List ℕ) → among x ks ≡ true → OneOf x ks
among_one x [] e = let z : ◌≡◌ {A = ℕ} 0 1 = cc in omega arith
among_one x (k ∷ ks) e = go (eqb x k) refl e (λ u. among_one x ks u)
  where
    go : (b : Bool) → eqb x k ≡ b → cond b true (among x ks) ≡ true → (among x ks ≡ true → OneOf x ks) → OneOf x (k ∷ ks)
    go true q u ih = one_here x k ks (eqb-true x k q)
    go false q u ih = one_more x k ks (ih u)

not_in : (x : ℕ) (arms : List (List ℕ)) → Rest x arms → in_arms x arms ≡ true → ⊥
not_in x [] h e = let z : ◌≡◌ {A = ℕ} 0 1 = cc in omega arith
not_in x (ks ∷ arms) h e = go (among x ks) refl e (λ u. not_in x arms h.0 u)
  where
    go : (b : Bool) → among x ks ≡ b → cond b true (in_arms x arms) ≡ true → (in_arms x arms ≡ true → ⊥) → ⊥
    go true q u ih = h.1 (among_one x ks q)
    go false q u ih = ih u

module _ {A : Type 0} (same : A → A → Bool) (sound : (x y : A) → same x y ≡ true → x ≡ y) (g : Decoded → A) (a : A) (arms : List (List ℕ)) where
  -- each row that no arm has gives a
  abbrev pub leaves : List Row → Bool
  leaves [] = true
  leaves (r ∷ rs) = cond (cond (in_arms r.opcode arms) true (same (g (known r)) a)) (leaves rs) false

  row_here : (r : Row) (d : Decoded) (x : ℕ) → (r.opcode ≡ x → g (known r) ≡ a) → g d ≡ a → g (cond (eqb r.opcode x) (known r) d) ≡ a
  row_here r d x k l = go (eqb r.opcode x) refl
    where
      go : (b : Bool) → eqb r.opcode x ≡ b → g (cond b (known r) d) ≡ a
      go true q = k (eqb-true r.opcode x q)
      go false q = l

  row-left :
      (r : Row) (rs : List Row) (x : ℕ) → Rest x arms → (T (leaves rs) → g (decode_in rs x) ≡ a) →
      (b : Bool) → in_arms r.opcode arms ≡ b → (d : Bool) → same (g (known r)) a ≡ d →
      T (cond (cond b true d) (leaves rs) false) → g (decode_in (r ∷ rs) x) ≡ a
  row-left r rs x h ih true q d w v = row_here r (decode_in rs x) x (λ z. absurd (not_in x arms h (rw (← z) q))) (ih v)
  row-left r rs x h ih false q true w v = row_here r (decode_in rs x) x (λ _. sound (g (known r)) a w) (ih v)
  row-left r rs x h ih false q false w v = absurd v

  pub rest : (rs : List Row) → g unknown ≡ a → T (leaves rs) → (x : ℕ) → Rest x arms → g (decode_in rs x) ≡ a
  rest [] u t x h = u
  rest (r ∷ rs) u t x h = row-left r rs x h (λ v. rest rs u v x h) (in_arms r.opcode arms) refl (same (g (known r)) a) refl t

-- ---- tests that tell arguments and changes apart

abbrev pub same_argument : Option Argument → Option Argument → Bool
same_argument (Some nothing) (Some nothing) = true
same_argument (Some words) (Some words) = true
same_argument (Some place_of_stack) (Some place_of_stack) = true
same_argument (Some any) (Some any) = true
same_argument None None = true
same_argument a b = false

pub argument-sound : (a b : Option Argument) → same_argument a b ≡ true → a ≡ b
argument-sound (Some nothing) (Some nothing) e = refl
argument-sound (Some words) (Some words) e = refl
argument-sound (Some place_of_stack) (Some place_of_stack) e = refl
argument-sound (Some any) (Some any) e = refl
argument-sound None None e = refl
argument-sound (Some nothing) (Some words) e = cc
argument-sound (Some nothing) (Some place_of_stack) e = cc
argument-sound (Some nothing) (Some any) e = cc
argument-sound (Some nothing) None e = cc
argument-sound (Some words) (Some nothing) e = cc
argument-sound (Some words) (Some place_of_stack) e = cc
argument-sound (Some words) (Some any) e = cc
argument-sound (Some words) None e = cc
argument-sound (Some place_of_stack) (Some nothing) e = cc
argument-sound (Some place_of_stack) (Some words) e = cc
argument-sound (Some place_of_stack) (Some any) e = cc
argument-sound (Some place_of_stack) None e = cc
argument-sound (Some any) (Some nothing) e = cc
argument-sound (Some any) (Some words) e = cc
argument-sound (Some any) (Some place_of_stack) e = cc
argument-sound (Some any) None e = cc
argument-sound None (Some a) e = cc

abbrev pub same_change : Change → Change → Bool
same_change (grows k) (grows l) = eqb k l
same_change (shrinks k) (shrinks l) = eqb k l
same_change grows_by_argument grows_by_argument = true
same_change shrinks_by_argument shrinks_by_argument = true
same_change a b = false

pub change-sound : (a b : Change) → same_change a b ≡ true → a ≡ b
change-sound (grows k) (grows l) e = ap (λ n. (grows n)) (eqb-true k l e)
change-sound (shrinks k) (shrinks l) e = ap (λ n. (shrinks n)) (eqb-true k l e)
change-sound grows_by_argument grows_by_argument e = refl
change-sound shrinks_by_argument shrinks_by_argument e = refl
change-sound (grows k) (shrinks l) e = cc
change-sound (grows k) grows_by_argument e = cc
change-sound (grows k) shrinks_by_argument e = cc
change-sound (shrinks k) (grows l) e = cc
change-sound (shrinks k) grows_by_argument e = cc
change-sound (shrinks k) shrinks_by_argument e = cc
change-sound grows_by_argument (grows l) e = cc
change-sound grows_by_argument (shrinks l) e = cc
change-sound grows_by_argument shrinks_by_argument e = cc
change-sound shrinks_by_argument (grows l) e = cc
change-sound shrinks_by_argument (shrinks l) e = cc
change-sound shrinks_by_argument grows_by_argument e = cc

-- ---- what follows from what argument an instruction takes

abbrev pub fault_at : Option Argument → ℕ → ℕ
fault_at (Some a) n = argument_fault a n
fault_at None n = 0

pub argued : (d : Decoded) (n : ℕ) {a : Option Argument} → a ≡ argument_in d → argument4 d n ≡ fault_at a n
argued (known r) n e = rw e
argued unknown n e = rw e

pub known_by : (d : Decoded) {a : Option Argument} → a ≡ argument_in d → known_in d ≡ is_some a
known_by (known r) e = rw e
known_by unknown e = rw e

abbrev slots_at : Option Argument → ℕ
slots_at (Some a) = slots_of a
slots_at None = 1

pub sized_by : (d : Decoded) {a : Option Argument} → a ≡ argument_in d → size_in d ≡ slots_at a
sized_by (known r) e = rw e
sized_by unknown e = rw e

-- ---- what follows from the change of the depth

pub grown_is : (d : Decoded) (n : ℕ) {h : Change} → h ≡ change_in d → grown_in d n ≡ grown_by h n
grown_is (known r) n e = rw e
grown_is unknown n e = rw e

pub shrunk_is : (d : Decoded) (n : ℕ) {h : Change} → h ≡ change_in d → shrunk_in d n ≡ shrunk_by h n
shrunk_is (known r) n e = rw e
shrunk_is unknown n e = rw e

-- a change is below 16, or by an argument that is a number of words
abbrev is_words : Argument → Bool
is_words nothing = false
is_words words = true
is_words place_of_stack = false
is_words any = false

abbrev small : Change → Argument → Bool
small (grows k) a = ltb k 16
small (shrinks k) a = ltb k 16
small grows_by_argument a = is_words a
small shrinks_by_argument a = is_words a

abbrev small_in : Decoded → Bool
small_in (known r) = small r.change r.argument
small_in unknown = true

abbrev all_small : List Row → Bool
all_small [] = true
all_small (r ∷ rs) = cond (small r.change r.argument) (all_small rs) false

rows-small : (rs : List Row) → T (all_small rs) → (x : ℕ) → T (small_in (decode_in rs x))
rows-small [] t x = tt
rows-small (r ∷ rs) t x = go (small r.change r.argument) refl t (λ u. rows-small rs u x)
  where
    pick : (b : Bool) → T (small r.change r.argument) → T (small_in (decode_in rs x)) → T (small_in (cond b (known r) (decode_in rs x)))
    pick true h k = h
    pick false h k = k

    go : (b : Bool) → small r.change r.argument ≡ b → T (cond b (all_small rs) false) → (T (all_small rs) → T (small_in (decode_in rs x))) → T (small_in (decode_in (r ∷ rs) x))
    go true e u ih = pick (eqb r.opcode x) (rw e tt) (ih u)
    go false e u ih = absurd u

table-small : (x : ℕ) → T (small_in (decode x))
unfolding decode table
table-small x = rows-small table tt x

-- ---- an allowed argument changes the depth by less than 16

words-few : (a : Argument) (n : ℕ) → T (is_words a) → argument_fault a n ≡ 0 → n < 16
words-few nothing n t e = absurd t
words-few words n t e = go (ltb n 1) (ltb 5 n) refl e
  where
    go : (b d : Bool) → ltb 5 n ≡ d → ◌≡◌ {A = ℕ} (cond b 4 (cond d 4 0)) 0 → n < 16
    go true d q u = omega arith
    go false true q u = omega arith
    go false false q u = omega (arith, ltb-false 5 n q)
words-few place_of_stack n t e = absurd t
words-few any n t e = absurd t

grown_few : (h : Change) (a : Argument) (n : ℕ) → T (small h a) → argument_fault a n ≡ 0 → grown_by h n < 16
grown_few (grows k) a n t e = leb→le (suc k) 16 t
grown_few (shrinks k) a n t e = lit< tt
grown_few grows_by_argument a n t e = words-few a n t e
grown_few shrinks_by_argument a n t e = lit< tt

shrunk_few : (h : Change) (a : Argument) (n : ℕ) → T (small h a) → argument_fault a n ≡ 0 → shrunk_by h n < 16
shrunk_few (grows k) a n t e = lit< tt
shrunk_few (shrinks k) a n t e = leb→le (suc k) 16 t
shrunk_few grows_by_argument a n t e = lit< tt
shrunk_few shrinks_by_argument a n t e = words-few a n t e

grown_low : (d : Decoded) (n : ℕ) → T (small_in d) → argument4 d n ≡ 0 → grown_in d n < 16
grown_low (known r) n t e = grown_few r.change r.argument n t e
grown_low unknown n t e = lit< tt

shrunk_low : (d : Decoded) (n : ℕ) → T (small_in d) → argument4 d n ≡ 0 → shrunk_in d n < 16
shrunk_low (known r) n t e = shrunk_few r.change r.argument n t e
shrunk_low unknown n t e = lit< tt

pub grown_small : (x n : ℕ) → argument4 (decode x) n ≡ 0 → grown_in (decode x) n < 16
grown_small x n e = grown_low (decode x) n (table-small x) e

pub shrunk_small : (x n : ℕ) → argument4 (decode x) n ≡ 0 → shrunk_in (decode x) n < 16
shrunk_small x n e = shrunk_low (decode x) n (table-small x) e
