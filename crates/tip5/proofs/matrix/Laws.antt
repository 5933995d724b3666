-- The matrix: the code's table, the rows that it joins, and rows by halves of words. Assumes nothing.
use mathlib.Core.Bool.{Bool, true, false}
use mathlib.Core.List.{List}
use mathlib.Core.Path.{◌≡◌, refl, sym, ap, ◌∙◌}
use Prim.Native.Nat.{ℕ, ◌+◌, ◌*◌, ◌-◌, ◌/◌, ◌%◌, ◌^◌, ◌<◌, ◌≤◌}
use native.Mathlib.Nat.{mul-le-mul, div-add-mod', add_comm, zero-add}
use native.Mathlib.Omega.{arith}
use borrow.Author.Tests.{ltb-true, ltb-false}
use lib.Dec.{lit<, ltb}
use lib.ListN.{get_or, length, take, length-take}
use lib.Seq.{get_or-take}
use Rattle.std.proofs.Common.{sum}
use Rattle.tip5.specs.Matrix.{column, entry, sum_to, product, row_sum}
use Rattle.tip5.specs.Split.{Below, entry_from, coefficients, half_at, halves_of, pair_of, pair_at, pairs_of, sum_from, apart_from, apart_total, wide_from, term_of, dots_of, total_of, shift_of, low_of, high_of, joined_at, Ready, Joinable, row8, product_of}
use Rattle.tip5.specs.Tab.{tab}
use Rattle.tip5.proofs.Tab.{take_below, tab_of, tab-length, tab-at, tab-below, tab_cong, tab-element, tab-same, list_below}
use Rattle.tip5.proofs.matrix.Split.{row_from, sum_row, apart_row, apart_sum, low-split, high-split}
use Rattle.tip5.proofs.matrix.SumTo.{sum-cong, sum-plus, sum-scale, sum-at-most, list-sum}

-- ---- the column

column-below : (k : ℕ) → get_or column k 0 < 2 ^ 16
unfolding column
column-below = list_below (2 ^ 16) column (lit< tt) tt

entry-from-below : (k : ℕ) → entry_from k < 2 ^ 17
entry-from-below k = omega (arith, column-below ((31 - k) % 16))

wide-from-below : (k : ℕ) → wide_from k < 2 ^ 17
wide-from-below k = omega (arith, column-below ((31 - k) % 16), column-below ((31 - (k + 8)) % 16))

entry-from-round : (k : ℕ) → k < 16 → entry_from (k + 16) ≡ entry_from k
entry-from-round k h = ap (λ (j : ℕ). get_or column j 0) (omega arith)

wide-from-round : (k : ℕ) → k < 8 → wide_from (k + 8) ≡ wide_from k
wide-from-round k h =
    let e : k + 8 + 8 ≡ k + 16 = omega arith in
    ap (λ (x : ℕ). entry_from (k + 8) + x) (ap entry_from e ∙ entry-from-round k (omega arith)) ∙ add_comm (entry_from (k + 8)) (entry_from k)

place : (i j : ℕ) → i < 16 → j < 16 → 31 - (15 - i + j) ≡ 16 + i - j
place i j h g = omega arith

entry_at : (i j : ℕ) → i < 16 → j < 16 → entry_from (15 - i + j) ≡ entry i j
entry_at i j h g = ap (λ (k : ℕ). get_or column (k % 16) 0) (place i j h g)

-- ---- the code's table: its five parts, each computed once and carried to each entry

pub coefficients-below : (k : ℕ) → get_or coefficients k 0 < 2 ^ 21
unfolding coefficients column tab sum_to
coefficients-below = list_below (2 ^ 21) coefficients (lit< tt) tt

part-0 : tab (λ (k : ℕ). get_or coefficients k 0) 15 ≡ tab (apart_from entry_from 8) 15
unfolding coefficients column tab sum_to
part-0 = refl

part-15 : tab (λ (k : ℕ). get_or coefficients (15 + k) 0) 7 ≡ tab (apart_from wide_from 4) 7
unfolding coefficients column tab sum_to
part-15 = refl

part-22 : tab (λ (k : ℕ). get_or coefficients (22 + k) 0) 7 ≡ tab (sum_from wide_from 4) 7
unfolding coefficients column tab sum_to
part-22 = refl

part-29 : tab (λ (k : ℕ). get_or coefficients (29 + k) 0) 8 ≡ tab (apart_total entry_from 8) 8
unfolding coefficients column tab sum_to
part-29 = refl

part-37 : tab (λ (k : ℕ). get_or coefficients (37 + k) 0) 4 ≡ tab (apart_total wide_from 4) 4
unfolding coefficients column tab sum_to
part-37 = refl

-- ---- sums and differences of numbers

-- the first n of the sixteen that the definition has
abbrev pub pairs : Bool → ℕ → List ℕ → List ℕ
pairs minus n x = take n (pairs_of minus n x)

module _ (minus : Bool) (n : ℕ) (x : List ℕ) (s : n ≤ 8) where
  pair-at : (j : ℕ) → j < n → get_or (pairs minus n x) j 0 ≡ pair_of minus (get_or x j 0) (get_or x (n + j) 0)
  unfolding pairs_of
  pair-at j h =
      let e : (j + n) % 16 ≡ n + j = omega arith in
      get_or-take n (pairs_of minus n x) j 0 h ∙ tab-at (pair_at minus n x) 16 j (omega arith) ∙ ap (λ (k : ℕ). pair_of minus (get_or x j 0) (get_or x k 0)) e

  pub pairs_are : tab (λ (j : ℕ). pair_of minus (get_or x j 0) (get_or x (j + n) 0)) n ≡ pairs minus n x
  unfolding pairs_of
  pairs_are =
      let long : length (pairs_of minus n x) ≡ 16 = tab-length (pair_at minus n x) 16 in
      sym (tab_of _ n (pairs minus n x) (length-take n (pairs_of minus n x) ∙ omega arith)
      (λ (j : ℕ) (h : j < n). let e : n + j ≡ j + n = omega arith in pair-at j h ∙ ap (λ (k : ℕ). pair_of minus (get_or x j 0) (get_or x k 0)) e))

sums-below : (n b : ℕ) (x : List ℕ) → 0 < b → Below x b → Below (pairs false n x) (b + b)
unfolding pairs_of
sums-below n b x z h =
    take_below n (pairs_of false n x) (b + b) (omega arith) (tab-below (pair_at false n x) (b + b) (omega arith) (λ (k : ℕ). omega (arith, h k, h ((k + n) % 16))) 16)

pub pairs_below : (minus : Bool) (n : ℕ) (x : List ℕ) → Below x (2 ^ 33) → Below (pairs minus n x) (2 ^ 34)
unfolding pairs_of
pairs_below true n x h = take_below n (pairs_of true n x) (2 ^ 34) (lit< tt) (tab-below (pair_at true n x) (2 ^ 34) (lit< tt) (λ (k : ℕ). omega (arith, h k)) 16)
pairs_below false n x h = sums-below n (2 ^ 33) x (lit< tt) h

pub halves-sums-below : (x : List ℕ) → Below x (2 ^ 32) → Below (pairs false 8 x) (2 ^ 33)
halves-sums-below x h = sums-below 8 (2 ^ 32) x (lit< tt) h

-- a sum of at most eight differences fits
pub total-small : (n m : ℕ) (x d : List ℕ) → m ≤ 8 → Below x (2 ^ 33) → length d ≡ m → d ≡ pairs true n x → sum d < 2 ^ 64
total-small n m x d few h long e =
    let l = sum-at-most (λ (j : ℕ). get_or d j 0) (2 ^ 34) m (λ (j : ℕ) (g : j < m). let below : get_or d j 0 < 2 ^ 34 = rw e (pairs_below true n x h j) in omega arith) in
    rw (list-sum d m long) (omega arith)

pub summed_total : (n m t : ℕ) (x d : List ℕ) → length d ≡ m → d ≡ pairs true n x → t ≡ sum d → t ≡ total_of (pairs true n x) m
summed_total n m t x d long e h = h ∙ list-sum d m long ∙ ap (λ (l : List ℕ). total_of l m) e

-- ---- joining

ready_of : (p q o n r t : ℕ) → p + q + n * 2 ^ 50 ≡ 2 * r + o → p + o ≡ q + 2 * t + n * 2 ^ 50 → r ≤ 2 ^ 55 → o < 2 ^ 60 → Ready p q o n
ready_of p q o n r t e f h g = record { sum = omega arith; low = omega arith; high = omega arith; fits = omega arith }

low-is : (p q o n r : ℕ) → p + q + n * 2 ^ 50 ≡ 2 * r + o → low_of p q o n ≡ r
low-is p q o n r e = omega arith

high_is : (p q o n r : ℕ) → p + o ≡ q + 2 * r + n * 2 ^ 50 → high_of p q o n ≡ r
high_is p q o n r e = omega arith

abbrev nth : List ℕ → ℕ → ℕ
nth x j = get_or x j 0

small : (e x : ℕ) → e < 2 ^ 17 → x < 2 ^ 33 → e * x ≤ 0x1_ffff * 0x1_ffff_ffff
small e x h g = mul-le-mul {n₁ = e} {m₁ = x} {n₂ = 0x1_ffff} {m₂ = 0x1_ffff_ffff} (omega arith) (omega arith)

shift-step : (a b : ℕ) → a * 2 ^ 33 + b * 2 ^ 17 ≡ 2 ^ 33 * a + 2 ^ 17 * b
shift-step a b = omega arith

-- A level: the circulant T of n + n rows over x. The table has its differences from g on and their sums from w on; p are its
-- rows over the sums, q those over the differences, s the sum of the differences.
module _ (n : ℕ) (T : ℕ → ℕ) (x p q : List ℕ) (g w s : ℕ) (size : n ≤ 8)
    (round : (k : ℕ) → k < n + n → T (k + (n + n)) ≡ T k)
    (coefficient : (k : ℕ) → T k < 2 ^ 17)
    (number : Below x (2 ^ 33))
    (differences : (k : ℕ) → k < n + n - 1 → get_or coefficients (g + k) 0 ≡ apart_from T n k)
    (totals : (i : ℕ) → i < n → get_or coefficients (w + i) 0 ≡ apart_total T n i)
    (sums : (i : ℕ) → i < n → get_or p i 0 ≡ sum_row T (nth x) n i)
    (products : q ≡ tab (dots_of g (pairs true n x) n) n)
    (total : s ≡ total_of (pairs true n x) n)
  where
    term_is : (i : ℕ) → i < n → (j : ℕ) → j < n → term_of (g + (n - 1 - i)) (pairs true n x) j ≡ apart_from T n (n - 1 - i + j) * (nth x j + 2 ^ 33 - nth x (n + j))
    term_is i h j l =
        let e : g + (n - 1 - i) + j ≡ g + (n - 1 - i + j) = omega arith in
        let d = ap (λ (k : ℕ). get_or coefficients k 0) e ∙ differences (n - 1 - i + j) (omega arith) in
        let m = pair-at true n x size j l in
        λ z. d z * m z

    q-is : (i : ℕ) → i < n → get_or q i 0 ≡ apart_row T (nth x) n i
    q-is i h =
        tab-element (dots_of g (pairs true n x) n) q n i products h
        ∙ sum-cong (term_of (g + (n - 1 - i)) (pairs true n x)) (λ (j : ℕ). apart_from T n (n - 1 - i + j) * (nth x j + 2 ^ 33 - nth x (n + j))) n (term_is i h)

    total-is : s ≡ apart_sum (nth x) n
    total-is = total ∙ sum-cong (nth (pairs true n x)) (λ (j : ℕ). nth x j + 2 ^ 33 - nth x (n + j)) n (pair-at true n x size)

    total-below : s < 2 ^ 38
    total-below =
        let l = sum-at-most (nth (pairs true n x)) (2 ^ 34) n (λ (j : ℕ) (h : j < n). omega (arith, pairs_below true n x number j)) in
        omega arith

    shift_is : (i : ℕ) → i < n → shift_of w s i ≡ 2 ^ 33 * apart_total T n i + 2 ^ 17 * apart_sum (nth x) n
    shift_is i h =
        let a = totals i h in
        let b = total-is in
        (λ z. a z * 2 ^ 33 + b z * 2 ^ 17) ∙ shift-step (apart_total T n i) (apart_sum (nth x) n)

    low-row-is : (i : ℕ) → i < n → get_or p i 0 + get_or q i 0 + n * 2 ^ 50 ≡ 2 * row_from T (nth x) (n + n) i + shift_of w s i
    low-row-is i h =
        (λ z. sums i h z + q-is i h z + n * 2 ^ 50) ∙ low-split n T (nth x) round coefficient number i h
        ∙ ap (λ (o : ℕ). 2 * row_from T (nth x) (n + n) i + o) (sym (shift_is i h))

    high-row-is : (i : ℕ) → i < n → get_or p i 0 + shift_of w s i ≡ get_or q i 0 + 2 * row_from T (nth x) (n + n) (i + n) + n * 2 ^ 50
    high-row-is i h =
        (λ z. sums i h z + shift_is i h z) ∙ high-split n T (nth x) round coefficient number i h
        ∙ ap (λ (o : ℕ). o + 2 * row_from T (nth x) (n + n) (i + n) + n * 2 ^ 50) (sym (q-is i h))

    row-at-most : (i : ℕ) → row_from T (nth x) (n + n) i ≤ 2 ^ 55
    row-at-most i =
        let l =
        sum-at-most (λ (j : ℕ). T (n + n - 1 - i + j) * nth x j) (0x1_ffff * 0x1_ffff_ffff) (n + n)
        (λ (j : ℕ) (h : j < n + n). small (T (n + n - 1 - i + j)) (nth x j) (coefficient (n + n - 1 - i + j)) (number j)) in
        omega arith

    pub joinable : Joinable p q w s n
    joinable =
        record {
          size = size;
          total = total-below;
          ready = λ (i : ℕ) (h : i < n).
              ready_of (get_or p i 0) (get_or q i 0) (shift_of w s i) n (row_from T (nth x) (n + n) i) (row_from T (nth x) (n + n) (i + n)) (low-row-is i h) (high-row-is i h)
              (row-at-most i) (omega (arith, coefficients-below (w + i), total-below));
        }

    joined-case : (i : ℕ) (b : Bool) → ltb i n ≡ b → i < n + n → joined_at p q w s n i ≡ row_from T (nth x) (n + n) i
    joined-case i true e h = rw e (low-is (get_or p i 0) (get_or q i 0) (shift_of w s i) n _ (low-row-is i (ltb-true i n e)))
    joined-case i false e h =
        let l = ltb-false i n e in
        let k : i - n + n ≡ i = omega arith in
        rw e
        (high_is (get_or p (i - n) 0) (get_or q (i - n) 0) (shift_of w s (i - n)) n (row_from T (nth x) (n + n) (i - n + n)) (high-row-is (i - n) (omega arith))
        ∙ ap (row_from T (nth x) (n + n)) k)

    pub joined-row : (i : ℕ) → i < n + n → joined_at p q w s n i ≡ row_from T (nth x) (n + n) i
    joined-row i h = joined-case i (ltb i n) refl h

-- ---- the two levels

module _ (x p q : List ℕ) (s : ℕ) (number : Below x (2 ^ 33))
    (sums : p ≡ tab (dots_of 22 (pairs false 4 x) 4) 4)
    (products : q ≡ tab (dots_of 15 (pairs true 4 x) 4) 4)
    (total : s ≡ total_of (pairs true 4 x) 4)
  where
    sum-term : (i : ℕ) → i < 4 → (j : ℕ) → j < 4 → term_of (22 + (3 - i)) (pairs false 4 x) j ≡ sum_from wide_from 4 (3 - i + j) * (nth x j + nth x (4 + j))
    sum-term i h j l =
        let e : 22 + (3 - i) + j ≡ 22 + (3 - i + j) = omega arith in
        let d = ap (λ (k : ℕ). get_or coefficients k 0) e ∙ tab-same _ _ 7 (3 - i + j) part-22 (omega arith) in
        let m = pair-at false 4 x (omega arith) j l in
        λ z. d z * m z

    sums-4 : (i : ℕ) → i < 4 → get_or p i 0 ≡ sum_row wide_from (nth x) 4 i
    sums-4 i h =
        tab-element (dots_of 22 (pairs false 4 x) 4) p 4 i sums h
        ∙ sum-cong (term_of (22 + (3 - i)) (pairs false 4 x)) (λ (j : ℕ). sum_from wide_from 4 (3 - i + j) * (nth x j + nth x (4 + j))) 4 (sum-term i h)

    pub joinable-4 : Joinable p q 37 s 4
    joinable-4 =
        joinable 4 wide_from x p q 15 37 s (omega arith) wide-from-round wide-from-below number (λ (k : ℕ) (h : k < 7). tab-same _ _ 7 k part-15 h)
        (λ (k : ℕ) (h : k < 4). tab-same _ _ 4 k part-37 h) sums-4 products total

    pub rows-4 : tab (joined_at p q 37 s 4) 8 ≡ tab (row8 x) 8
    rows-4 =
        tab_cong (joined_at p q 37 s 4) (row8 x) 8
        (joined-row 4 wide_from x p q 15 37 s (omega arith) wide-from-round wide-from-below number (λ (k : ℕ) (h : k < 7). tab-same _ _ 7 k part-15 h)
        (λ (k : ℕ) (h : k < 4). tab-same _ _ 4 k part-37 h) sums-4 products total)

module _ (x p q : List ℕ) (s : ℕ) (number : Below x (2 ^ 32))
    (sums : p ≡ tab (row8 (pairs false 8 x)) 8)
    (products : q ≡ tab (dots_of 0 (pairs true 8 x) 8) 8)
    (total : s ≡ total_of (pairs true 8 x) 8)
  where
    number-8 : Below x (2 ^ 33)
    number-8 k = omega (arith, number k)

    sums-8 : (i : ℕ) → i < 8 → get_or p i 0 ≡ sum_row entry_from (nth x) 8 i
    sums-8 i h =
        tab-element (row8 (pairs false 8 x)) p 8 i sums h
        ∙ sum-cong (λ (j : ℕ). wide_from (7 - i + j) * nth (pairs false 8 x) j) (λ (j : ℕ). sum_from entry_from 8 (7 - i + j) * (nth x j + nth x (8 + j))) 8
        (λ (j : ℕ) (l : j < 8). ap (λ (e : ℕ). wide_from (7 - i + j) * e) (pair-at false 8 x (omega arith) j l))

    differences-8 : (k : ℕ) → k < 15 → get_or coefficients (0 + k) 0 ≡ apart_from entry_from 8 k
    differences-8 k h = ap (λ (j : ℕ). get_or coefficients j 0) (zero-add k) ∙ tab-same (λ (k : ℕ). get_or coefficients k 0) _ 15 k part-0 h

    pub joinable-8 : Joinable p q 29 s 8
    joinable-8 =
        joinable 8 entry_from x p q 0 29 s (omega arith) entry-from-round entry-from-below number-8 differences-8 (λ (k : ℕ) (h : k < 8). tab-same _ _ 8 k part-29 h) sums-8
        products total

    row_is : (i : ℕ) → i < 16 → joined_at p q 29 s 8 i ≡ row_sum x i
    row_is i h =
        joined-row 8 entry_from x p q 0 29 s (omega arith) entry-from-round entry-from-below number-8 differences-8 (λ (k : ℕ) (h : k < 8). tab-same _ _ 8 k part-29 h) sums-8
        products total i h
        ∙ sum-cong (λ (j : ℕ). entry_from (15 - i + j) * nth x j) (product x i) 16 (λ (j : ℕ) (l : j < 16). ap (λ (e : ℕ). e * nth x j) (entry_at i j h l))

    pub rows-8 : tab (joined_at p q 29 s 8) 16 ≡ product_of x
    unfolding product_of
    rows-8 = tab_cong (joined_at p q 29 s 8) (row_sum x) 16 row_is

-- ---- bounds

pub term-below : (e x : ℕ) → e < 2 ^ 21 → x < 2 ^ 34 → e * x ≤ 0x1f_ffff * 0x3_ffff_ffff
term-below e x h g = mul-le-mul {n₁ = e} {m₁ = x} {n₂ = 0x1f_ffff} {m₂ = 0x3_ffff_ffff} (omega arith) (omega arith)

entry-small : (e x : ℕ) → e < 2 ^ 16 → x < 2 ^ 32 → e * x ≤ 0xffff * 0xffff_ffff
entry-small e x h g = mul-le-mul {n₁ = e} {m₁ = x} {n₂ = 0xffff} {m₂ = 0xffff_ffff} (omega arith) (omega arith)

row_below : (x : List ℕ) (i : ℕ) → Below x (2 ^ 32) → row_sum x i < 2 ^ 53
row_below x i h =
    let l = sum-at-most (product x i) (0xffff * 0xffff_ffff) 16 (λ (j : ℕ) (m : j < 16). entry-small (entry i j) (get_or x j 0) (column-below ((16 + i - j) % 16)) (h j)) in
    omega arith

-- ---- a row by the halves of the words

gather : (e h l : ℕ) → e * h * 2 ^ 32 + e * l ≡ e * (h * 2 ^ 32 + l)
gather e h l = omega arith

half_at_lem : (upper : Bool) (s : List ℕ) (j : ℕ) → j < 16 → get_or (halves_of upper s) j 0 ≡ half_at upper s j
unfolding halves_of
half_at_lem upper s j h = tab-at (half_at upper s) 16 j h

pub halves-below : (upper : Bool) (s : List ℕ) → Below s (2 ^ 64) → Below (tab (half_at upper s) 16) (2 ^ 32)
halves-below true s h = tab-below (half_at true s) (2 ^ 32) (lit< tt) (λ (k : ℕ). omega (arith, h k)) 16
halves-below false s h = tab-below (half_at false s) (2 ^ 32) (lit< tt) (λ (k : ℕ). omega arith) 16

half-term : (s : List ℕ) (i j : ℕ) → j < 16 → product (halves_of true s) i j * 2 ^ 32 + product (halves_of false s) i j ≡ product s i j
half-term s i j h =
    (λ n. entry i j * half_at_lem true s j h n * 2 ^ 32 + entry i j * half_at_lem false s j h n)
    ∙ gather (entry i j) (get_or s j 0 / 2 ^ 32) (get_or s j 0 % 2 ^ 32)
    ∙ ap (λ (x : ℕ). entry i j * x) (div-add-mod' (get_or s j 0) (2 ^ 32))

pub by-halves : (s : List ℕ) (i : ℕ) → row_sum (halves_of true s) i * 2 ^ 32 + row_sum (halves_of false s) i ≡ row_sum s i
by-halves s i =
    ap (λ (x : ℕ). x + row_sum (halves_of false s) i) (sym (sum-scale (product (halves_of true s) i) (2 ^ 32) 16))
    ∙ sym (sum-plus (λ (j : ℕ). product (halves_of true s) i j * 2 ^ 32) (product (halves_of false s) i) 16)
    ∙ sum-cong (λ (j : ℕ). product (halves_of true s) i j * 2 ^ 32 + product (halves_of false s) i j) (product s i) 16 (half-term s i)

-- the two words that a sum is handed to `reduce` in
pub carried : (h l k : ℕ)
    → (h + k / 2 ^ 32 + (l + k % 2 ^ 32) / 2 ^ 32) / 2 ^ 32 * 2 ^ 64 + ((h + k / 2 ^ 32 + (l + k % 2 ^ 32) / 2 ^ 32) % 2 ^ 32 * 2 ^ 32 + (l + k % 2 ^ 32) % 2 ^ 32)
    ≡ h * 2 ^ 32 + l + k
carried h l k = omega arith

-- what `mds` makes of the halves of the words of s
module _ (upper : Bool) (s x r : List ℕ) (i : ℕ) (e : x ≡ halves_of upper s) (g : r ≡ product_of x) (h : i < 16) where
  pub half-row : get_or r i 0 ≡ row_sum (halves_of upper s) i
  unfolding product_of
  half-row = ap (λ (l : List ℕ). get_or l i 0) (g ∙ ap product_of e) ∙ tab-at (row_sum (halves_of upper s)) 16 i h

pub product-below : (x r : List ℕ) → r ≡ product_of x → Below x (2 ^ 32) → Below r (2 ^ 53)
unfolding product_of
product-below x r e h = rw e (tab-below (row_sum x) (2 ^ 53) (lit< tt) (λ (i : ℕ). row_below x i h) 16)
