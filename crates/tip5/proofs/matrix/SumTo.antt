-- Sums of numbers. Assumes nothing.
use mathlib.Core.Path.{◌≡◌, sym, ap, ◌∙◌}
use Prim.Native.Nat.{ℕ, zero, suc, ◌+◌, ◌*◌, ◌<◌, ◌≤◌}
use native.Mathlib.Nat.{add-suc, add-zero, le_of_eq}
use native.Mathlib.Numerals.{add-one}
use native.Mathlib.Omega.{arith}
use Rattle.std.proofs.Common.{List, length, take, get_or, sum}
use Rattle.std.proofs.lemmas.List.Sums.{sum_by_more}
use Rattle.std.proofs.Math.Seq.{take_all}
use Rattle.tip5.specs.Matrix.{sum_to, sum_zero, sum_suc}

pub sum_more : (f : ℕ → ℕ) (n : ℕ) → sum_to f (n + 1) ≡ sum_to f n + f n
sum_more f n = ap (sum_to f) (add-one n) ∙ sum_suc f n

pub sum-cong : (f g : ℕ → ℕ) (n : ℕ) → ((j : ℕ) → j < n → f j ≡ g j) → sum_to f n ≡ sum_to g n
sum-cong f g zero e = sum_zero f ∙ sym (sum_zero g)
sum-cong f g (suc n) e =
    sum_suc f n ∙ (λ i. sum-cong f g n (λ (j : ℕ) (h : j < n). e j (omega arith)) i + e n (omega arith) i) ∙ sym (sum_suc g n)

pub sum-plus : (f g : ℕ → ℕ) (n : ℕ) → sum_to (λ (j : ℕ). f j + g j) n ≡ sum_to f n + sum_to g n
sum-plus f g zero = sum_zero _ ∙ sym (λ i. sum_zero f i + sum_zero g i)
sum-plus f g (suc n) =
    sum_suc _ n ∙ ap (λ (x : ℕ). x + (f n + g n)) (sum-plus f g n) ∙ regroup (sum_to f n) (sum_to g n) (f n) (g n) ∙ sym (λ i. sum_suc f n i + sum_suc g n i)
  where
    regroup : (a b c d : ℕ) → a + b + (c + d) ≡ a + c + (b + d)
    regroup a b c d = omega arith

pub sum-scale : (f : ℕ → ℕ) (c n : ℕ) → sum_to (λ (j : ℕ). f j * c) n ≡ sum_to f n * c
sum-scale f c zero = sum_zero _ ∙ sym (ap (λ (x : ℕ). x * c) (sum_zero f) ∙ omega arith)
sum-scale f c (suc n) =
    sum_suc _ n ∙ ap (λ (x : ℕ). x + f n * c) (sum-scale f c n) ∙ regroup (sum_to f n) (f n) c ∙ sym (ap (λ (x : ℕ). x * c) (sum_suc f n))
  where
    regroup : (a b c : ℕ) → a * c + b * c ≡ (a + b) * c
    regroup a b c = omega arith

pub sum-split : (f : ℕ → ℕ) (m n : ℕ) → sum_to f (m + n) ≡ sum_to f m + sum_to (λ (j : ℕ). f (m + j)) n
sum-split f m zero = ap (sum_to f) (add-zero m) ∙ sym (ap (λ (x : ℕ). sum_to f m + x) (sum_zero _) ∙ add-zero _)
sum-split f m (suc n) =
    ap (sum_to f) (add-suc m n) ∙ sum_suc f (m + n) ∙ ap (λ (x : ℕ). x + f (m + n)) (sum-split f m n) ∙ regroup (sum_to f m) _ (f (m + n))
    ∙ sym (ap (λ (x : ℕ). sum_to f m + x) (sum_suc _ n))
  where
    regroup : (a b c : ℕ) → a + b + c ≡ a + (b + c)
    regroup a b c = omega arith

pub sum-at-most : (f : ℕ → ℕ) (b n : ℕ) → ((j : ℕ) → j < n → f j ≤ b) → sum_to f n ≤ n * b
sum-at-most f b zero h = omega (arith, sum_zero f)
sum-at-most f b (suc n) h =
    let e = sum_suc f n in
    let l = sum-at-most f b n (λ (j : ℕ) (g : j < n). h j (omega arith)) in
    let m = h n (omega arith) in
    step (sum_to f n) (f n) b n (sum_to f (suc n)) e l m
  where
    step : (s a b n r : ℕ) → r ≡ s + a → s ≤ n * b → a ≤ b → r ≤ suc n * b
    step s a b n r e l m = omega arith

-- the sum of a list's elements
first-sum : (l : List ℕ) (n : ℕ) → n ≤ length l → sum (take n l) ≡ sum_to (λ (j : ℕ). get_or l j 0) n
first-sum l zero h = sym (sum_zero _)
first-sum l (suc n) h =
    ap (λ (k : ℕ). sum (take k l)) (sym (add-one n)) ∙ sum_by_more (λ (x : ℕ). x) l n 0 (omega arith) ∙ ap (λ (s : ℕ). s + get_or l n 0) (first-sum l n (omega arith))
    ∙ sym (sum_suc (λ (j : ℕ). get_or l j 0) n)

pub list-sum : (l : List ℕ) (n : ℕ) → length l ≡ n → sum l ≡ sum_to (λ (j : ℕ). get_or l j 0) n
list-sum l n h = ap sum (sym (take_all n l (le_of_eq h))) ∙ first-sum l n (omega arith)
