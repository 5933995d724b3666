-- What the records of a row's instruction count for is at most some number, by one test of each row with the largest argument. Assumes nothing.
use mathlib.Core.Path.{◌≡◌, refl, sym, ap, ◌∙◌}
use mathlib.Core.Bool.{Bool, true, false}
use mathlib.Core.List.{List, [], ◌∷◌}
use Prim.Native.Nat.{ℕ, ◌+◌, ◌*◌, ◌≤◌}
use native.Mathlib.Nat.{mul-le-mul_left, mul-le-mul_right}
use native.Mathlib.Omega.{arith}
use borrow.Author.Tests.{leb-true, eqb-true}
use lib.Dec.{leb, eqb}
use Rattle.choices.specs.Choice.{cond}
use Rattle.machine.specs.Instruction.{Row, Argument, Change, grows, shrinks, grows_by_argument, shrinks_by_argument, table, known, decode_in, decode, grown_by, shrunk_by, argument_fault}
use Rattle.machine.proofs.Rows.{nothing_allowed, words_allowed, place_allowed}
use Rattle.machine.proofs.Does.{Weights}

-- the records that are not of the op stack
abbrev pub own_size : Weights → Row → ℕ → ℕ
own_size per r n = per.of_reset * r.resets + per.of_tip5 * r.traces + per.of_u32 * r.u32s + per.of_ram * (r.ram_accesses + n * r.ram_per_word)

-- all records of the row's instruction with the argument n
abbrev pub size_in : Weights → Row → ℕ → ℕ
size_in per r n = own_size per r n + per.of_stack * (grown_by r.change n + shrunk_by r.change n)

-- ---- a test of every row

abbrev pub all_of : (Row → Bool) → List Row → Bool
all_of f [] = true
all_of f (r ∷ rs) = cond (f r) (all_of f rs) false

all_in : (f : Row → Bool) (rs : List Row) (op : ℕ) (q : Row) → all_of f rs ≡ true → decode_in rs op ≡ known q → f q ≡ true
all_in f [] op q h e = let z : ◌≡◌ {A = ℕ} 0 1 = cc in absurd (omega arith)
all_in f (r ∷ rs) op q h e = go (f r) (eqb r.opcode op) refl h e (all_in f rs op q)
  where
    go : (t u : Bool) → f r ≡ t → cond t (all_of f rs) false ≡ true → cond u (known r) (decode_in rs op) ≡ known q →
        (all_of f rs ≡ true → decode_in rs op ≡ known q → f q ≡ true) → f q ≡ true
    go true true a b c ih = let y : r ≡ q = cc in ap f (sym y) ∙ a
    go true false a b c ih = ih b c
    go false u a b c ih = let z : ◌≡◌ {A = ℕ} 0 1 = cc in absurd (omega arith)

pub all-decode : (f : Row → Bool) (op : ℕ) (r : Row) → all_of f table ≡ true → decode op ≡ known r → f r ≡ true
unfolding decode
all-decode f op r h e = all_in f table op r h e

-- ---- at most so much

abbrev fixed : Change → Bool
fixed (grows k) = true
fixed (shrinks k) = true
fixed grows_by_argument = false
fixed shrinks_by_argument = false

abbrev pub small_for : Weights → ℕ → Argument → Row → Bool
small_for per most Argument.nothing r = leb (size_in per r 0) most
small_for per most Argument.words r = leb (size_in per r 5) most
small_for per most Argument.place_of_stack r = leb (size_in per r 15) most
small_for per most Argument.any r = cond (fixed r.change) (cond (eqb r.ram_per_word 0) (leb (size_in per r 0) most) false) false

-- that every row passes is computed for each weights and number
abbrev pub all_small : Weights → ℕ → Bool
all_small per most = all_of (λ r. small_for per most r.argument r) table

module _ (per : Weights) (most : ℕ) where
  size_grows : (r : Row) (n k : ℕ) → n ≤ k → size_in per r n ≤ size_in per r k
  size_grows r n k h = go r.change
    where
      more : per.of_ram * (r.ram_accesses + n * r.ram_per_word) ≤ per.of_ram * (r.ram_accesses + k * r.ram_per_word)
      more = mul-le-mul_left per.of_ram (omega (arith, mul-le-mul_right r.ram_per_word h))

      moved : per.of_stack * n ≤ per.of_stack * k
      moved = mul-le-mul_left per.of_stack h

      go : (c : Change) → own_size per r n + per.of_stack * (grown_by c n + shrunk_by c n) ≤ own_size per r k + per.of_stack * (grown_by c k + shrunk_by c k)
      go (grows g) = omega (arith, more)
      go (shrinks g) = omega (arith, more)
      go grows_by_argument = omega (arith, more, moved)
      go shrinks_by_argument = omega (arith, more, moved)

  size_same : (r : Row) (n : ℕ) → fixed r.change ≡ true → r.ram_per_word ≡ 0 → size_in per r n ≡ size_in per r 0
  size_same r n h e = rw e (go r.change h)
    where
      go : (c : Change) → fixed c ≡ true →
          per.of_reset * r.resets + per.of_tip5 * r.traces + per.of_u32 * r.u32s + per.of_ram * (r.ram_accesses + n * 0) + per.of_stack * (grown_by c n + shrunk_by c n)
          ≡ per.of_reset * r.resets + per.of_tip5 * r.traces + per.of_u32 * r.u32s + per.of_ram * (r.ram_accesses + 0 * 0) + per.of_stack * (grown_by c 0 + shrunk_by c 0)
      go (grows g) h = omega arith
      go (shrinks g) h = omega arith
      go grows_by_argument h = let z : ◌≡◌ {A = ℕ} 0 1 = cc in absurd (omega arith)
      go shrinks_by_argument h = let z : ◌≡◌ {A = ℕ} 0 1 = cc in absurd (omega arith)

  small : (r : Row) (n : ℕ) → small_for per most r.argument r ≡ true → argument_fault r.argument n ≡ 0 → size_in per r n ≤ most
  small r n = go r.argument
    where
      go : (a : Argument) → small_for per most a r ≡ true → argument_fault a n ≡ 0 → size_in per r n ≤ most
      go Argument.nothing t h = omega (arith, leb-true (size_in per r 0) most t, size_grows r n 0 (omega (arith, nothing_allowed n h)))
      go Argument.words t h = omega (arith, leb-true (size_in per r 5) most t, size_grows r n 5 (words_allowed n h))
      go Argument.place_of_stack t h = omega (arith, leb-true (size_in per r 15) most t, size_grows r n 15 (place_allowed n h))
      go Argument.any t h = any (fixed r.change) (eqb r.ram_per_word 0) refl refl t
        where
          any : (x y : Bool) → fixed r.change ≡ x → eqb r.ram_per_word 0 ≡ y → cond x (cond y (leb (size_in per r 0) most) false) false ≡ true → size_in per r n ≤ most
          any true true a b c = omega (arith, leb-true (size_in per r 0) most c, size_same r n a (eqb-true r.ram_per_word 0 b))
          any true false a b c = let z : ◌≡◌ {A = ℕ} 0 1 = cc in absurd (omega arith)
          any false y a b c = let z : ◌≡◌ {A = ℕ} 0 1 = cc in absurd (omega arith)

  pub row-few : all_small per most ≡ true → (op n : ℕ) (r : Row) → decode op ≡ known r → argument_fault r.argument n ≡ 0 → size_in per r n ≤ most
  row-few t op n r e h = small r n (all-decode (λ r. small_for per most r.argument r) op r t e) h
