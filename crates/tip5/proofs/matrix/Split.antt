-- A circulant of 2 * n rows, split into rows over sums and rows over differences. Assumes nothing.
use mathlib.Core.Path.{◌≡◌, ap, ◌∙◌}
use Prim.Native.Nat.{ℕ, zero, suc, ◌+◌, ◌*◌, ◌-◌, ◌^◌, ◌<◌}
use native.Mathlib.Omega.{arith}
use Rattle.tip5.specs.Matrix.{sum_to, sum_zero, sum_suc}
use Rattle.tip5.specs.Split.{sum_from, apart_from, apart_total}
use Rattle.tip5.proofs.matrix.SumTo.{sum-cong, sum-split}

-- ---- one term: a and b are coefficients, x and y numbers, g and d their differences above B and D

module _ (a b x y g d B D : ℕ) (e : g + b ≡ a + B) (f : d + y ≡ x + D) where
  low-term : (b + a) * (x + y) + g * d + B * D ≡ 2 * (a * x + b * y) + (D * g + B * d)
  low-term =
      let both : (g + b) * (d + y) ≡ (a + B) * (x + D) = λ i. e i * f i in
      omega (arith, ap (λ (z : ℕ). z * y) e, ap (λ (z : ℕ). b * z) f, ap (λ (z : ℕ). D * z) e, ap (λ (z : ℕ). B * z) f)

  high-term : (b + a) * (x + y) + (D * g + B * d) ≡ g * d + 2 * (b * x + a * y) + B * D
  high-term =
      let both : (g + b) * (d + y) ≡ (a + B) * (x + D) = λ i. e i * f i in
      omega (arith, ap (λ (z : ℕ). z * y) e, ap (λ (z : ℕ). b * z) f, ap (λ (z : ℕ). D * z) e, ap (λ (z : ℕ). B * z) f)

-- ---- n terms

low_step : (P Q U R G S p q u v g s B D m n : ℕ) → P + Q + n * m ≡ 2 * (U + R) + (D * G + B * S) → p + q + m ≡ 2 * (u + v) + (D * g + B * s)
    → P + p + (Q + q) + suc n * m ≡ 2 * (U + u + (R + v)) + (D * (G + g) + B * (S + s))
low_step P Q U R G S p q u v g s B D m n e f = omega arith

high-step : (P Q U R G S p q u v g s B D m n : ℕ) → P + (D * G + B * S) ≡ Q + 2 * (U + R) + n * m → p + (D * g + B * s) ≡ q + 2 * (u + v) + m
    → P + p + (D * (G + g) + B * (S + s)) ≡ Q + q + 2 * (U + u + (R + v)) + suc n * m
high-step P Q U R G S p q u v g s B D m n e f = omega arith

module _ (a b x y g d : ℕ → ℕ) (B D : ℕ) where
  abbrev over-sums : ℕ → ℕ
  over-sums j = (b j + a j) * (x j + y j)

  abbrev over-differences : ℕ → ℕ
  over-differences j = g j * d j

  low_sum : (n : ℕ) → ((j : ℕ) → j < n → g j + b j ≡ a j + B) → ((j : ℕ) → j < n → d j + y j ≡ x j + D)
      → sum_to over-sums n + sum_to over-differences n + n * (B * D)
      ≡ 2 * (sum_to (λ (j : ℕ). a j * x j) n + sum_to (λ (j : ℕ). b j * y j) n) + (D * sum_to g n + B * sum_to d n)
  low_sum zero e f = rw (sum_zero over-sums, sum_zero over-differences, sum_zero (λ (j : ℕ). a j * x j), sum_zero (λ (j : ℕ). b j * y j), sum_zero g, sum_zero d) (omega arith)
  low_sum (suc n) e f =
      rw (sum_suc over-sums n, sum_suc over-differences n, sum_suc (λ (j : ℕ). a j * x j) n, sum_suc (λ (j : ℕ). b j * y j) n, sum_suc g n, sum_suc d n)
      (low_step _ _ _ _ _ _ _ _ _ _ _ _ B D (B * D) n (low_sum n (λ (j : ℕ) (h : j < n). e j (omega arith)) (λ (j : ℕ) (h : j < n). f j (omega arith))) (low-term (a n) (b n) (x n) (y n) (g n) (d n) B D (e n (omega arith)) (f n (omega arith))))

  high_sum : (n : ℕ) → ((j : ℕ) → j < n → g j + b j ≡ a j + B) → ((j : ℕ) → j < n → d j + y j ≡ x j + D)
      → sum_to over-sums n + (D * sum_to g n + B * sum_to d n)
      ≡ sum_to over-differences n + 2 * (sum_to (λ (j : ℕ). b j * x j) n + sum_to (λ (j : ℕ). a j * y j) n) + n * (B * D)
  high_sum zero e f = rw (sum_zero over-sums, sum_zero over-differences, sum_zero (λ (j : ℕ). b j * x j), sum_zero (λ (j : ℕ). a j * y j), sum_zero g, sum_zero d) (omega arith)
  high_sum (suc n) e f =
      rw (sum_suc over-sums n, sum_suc over-differences n, sum_suc (λ (j : ℕ). b j * x j) n, sum_suc (λ (j : ℕ). a j * y j) n, sum_suc g n, sum_suc d n)
      (high-step _ _ _ _ _ _ _ _ _ _ _ _ B D (B * D) n (high_sum n (λ (j : ℕ) (h : j < n). e j (omega arith)) (λ (j : ℕ) (h : j < n). f j (omega arith))) (high-term (a n) (b n) (x n) (y n) (g n) (d n) B D (e n (omega arith)) (f n (omega arith))))

-- ---- rows of a circulant T of n + n rows over the numbers X

abbrev pub row_from : (ℕ → ℕ) → (ℕ → ℕ) → ℕ → ℕ → ℕ
row_from T X m i = sum_to (λ (j : ℕ). T (m - 1 - i + j) * X j) m

abbrev pub sum_row : (ℕ → ℕ) → (ℕ → ℕ) → ℕ → ℕ → ℕ
sum_row T X n i = sum_to (λ (j : ℕ). sum_from T n (n - 1 - i + j) * (X j + X (n + j))) n

abbrev pub apart_row : (ℕ → ℕ) → (ℕ → ℕ) → ℕ → ℕ → ℕ
apart_row T X n i = sum_to (λ (j : ℕ). apart_from T n (n - 1 - i + j) * (X j + 2 ^ 33 - X (n + j))) n

abbrev pub apart_sum : (ℕ → ℕ) → ℕ → ℕ
apart_sum X n = sum_to (λ (j : ℕ). X j + 2 ^ 33 - X (n + j)) n

-- places in the list of coefficients, for i < n
module _ (n i j : ℕ) (h : i < n) where
  first : n + n - 1 - i + j ≡ n - 1 - i + j + n
  first = omega arith

  second : n + n - 1 - i + (n + j) ≡ n - 1 - i + j + (n + n)
  second = omega arith

  third : n + n - 1 - (i + n) + j ≡ n - 1 - i + j
  third = omega arith

  fourth : n + n - 1 - (i + n) + (n + j) ≡ n - 1 - i + j + n
  fourth = omega arith

module _ (n : ℕ) (T X : ℕ → ℕ) (round : (k : ℕ) → k < n + n → T (k + (n + n)) ≡ T k) where
  low-row : (i : ℕ) → i < n
      → row_from T X (n + n) i ≡ sum_to (λ (j : ℕ). T (n - 1 - i + j + n) * X j) n + sum_to (λ (j : ℕ). T (n - 1 - i + j) * X (n + j)) n
  low-row i h =
      sum-split (λ (j : ℕ). T (n + n - 1 - i + j) * X j) n n
      ∙ (λ z.
      sum-cong (λ (j : ℕ). T (n + n - 1 - i + j) * X j) (λ (j : ℕ). T (n - 1 - i + j + n) * X j) n
      (λ (j : ℕ) (g : j < n). ap (λ (k : ℕ). T k * X j) (first n i j h)) z
      + sum-cong (λ (j : ℕ). T (n + n - 1 - i + (n + j)) * X (n + j)) (λ (j : ℕ). T (n - 1 - i + j) * X (n + j)) n
      (λ (j : ℕ) (g : j < n). ap (λ (k : ℕ). T k * X (n + j)) (second n i j h) ∙ ap (λ (e : ℕ). e * X (n + j)) (round (n - 1 - i + j) (omega arith))) z)

  high-row : (i : ℕ) → i < n
      → row_from T X (n + n) (i + n) ≡ sum_to (λ (j : ℕ). T (n - 1 - i + j) * X j) n + sum_to (λ (j : ℕ). T (n - 1 - i + j + n) * X (n + j)) n
  high-row i h =
      sum-split (λ (j : ℕ). T (n + n - 1 - (i + n) + j) * X j) n n
      ∙ (λ z.
      sum-cong (λ (j : ℕ). T (n + n - 1 - (i + n) + j) * X j) (λ (j : ℕ). T (n - 1 - i + j) * X j) n
      (λ (j : ℕ) (g : j < n). ap (λ (k : ℕ). T k * X j) (third n i j h)) z
      + sum-cong (λ (j : ℕ). T (n + n - 1 - (i + n) + (n + j)) * X (n + j)) (λ (j : ℕ). T (n - 1 - i + j + n) * X (n + j)) n
      (λ (j : ℕ) (g : j < n). ap (λ (k : ℕ). T k * X (n + j)) (fourth n i j h)) z)

  module _ (coefficient : (k : ℕ) → T k < 2 ^ 17) (number : (k : ℕ) → X k < 2 ^ 33) (i : ℕ) (h : i < n) where
    apart-is : (k : ℕ) → apart_from T n k + T k ≡ T (k + n) + 2 ^ 17
    apart-is k = omega (arith, coefficient k)

    number_is : (j : ℕ) → X j + 2 ^ 33 - X (n + j) + X (n + j) ≡ X j + 2 ^ 33
    number_is j = omega (arith, number (n + j))

    pub low-split : sum_row T X n i + apart_row T X n i + n * 2 ^ 50 ≡ 2 * row_from T X (n + n) i + (2 ^ 33 * apart_total T n i + 2 ^ 17 * apart_sum X n)
    low-split =
        rw (low-row i h)
        (low_sum (λ (j : ℕ). T (n - 1 - i + j + n)) (λ (j : ℕ). T (n - 1 - i + j)) X (λ (j : ℕ). X (n + j)) (λ (j : ℕ). apart_from T n (n - 1 - i + j))
        (λ (j : ℕ). X j + 2 ^ 33 - X (n + j)) (2 ^ 17) (2 ^ 33) n (λ (j : ℕ) (g : j < n). apart-is (n - 1 - i + j)) (λ (j : ℕ) (g : j < n). number_is j))

    pub high-split : sum_row T X n i + (2 ^ 33 * apart_total T n i + 2 ^ 17 * apart_sum X n) ≡ apart_row T X n i + 2 * row_from T X (n + n) (i + n) + n * 2 ^ 50
    high-split =
        rw (high-row i h)
        (high_sum (λ (j : ℕ). T (n - 1 - i + j + n)) (λ (j : ℕ). T (n - 1 - i + j)) X (λ (j : ℕ). X (n + j)) (λ (j : ℕ). apart_from T n (n - 1 - i + j))
        (λ (j : ℕ). X j + 2 ^ 33 - X (n + j)) (2 ^ 17) (2 ^ 33) n (λ (j : ℕ) (g : j < n). apart-is (n - 1 - i + j)) (λ (j : ℕ) (g : j < n). number_is j))
