-- Remainders of sums, products and powers, by any m. Assumes nothing.
use mathlib.Core.Path.{◌≡◌, refl, sym, ap, ◌∙◌}
use Prim.Native.Nat.{ℕ, zero, suc, ◌+◌, ◌*◌, ◌/◌, ◌%◌, ◌^◌, ◌<◌}
use native.Mathlib.Nat.{mul_comm, mul-one, one-mul, mul-zero, add-zero, zero-add, zero-mod, div-add-mod', add-mul-mod_self_right, pow-zero, pow-suc, mod-mod, mod-eq_of_lt, mod-add-mod, add-mod-mod}
use native.Mathlib.Omega.{arith}
use lib.Pow.{pow-add}

regroup : (q m r b : ℕ) → (q * m + r) * b ≡ r * b + q * b * m
regroup q m r b = omega arith

pub mod-mul-mod : (a b m : ℕ) → (a % m * b) % m ≡ (a * b) % m
mod-mul-mod a b m =
    sym (add-mul-mod_self_right (a % m * b) (a / m * b) m) ∙ ap (λ (x : ℕ). x % m) (sym (regroup (a / m) m (a % m) b)) ∙ (λ i. (div-add-mod' a m i * b) % m)

pub mul-mod-mod : (a b m : ℕ) → (a * (b % m)) % m ≡ (a * b) % m
mul-mod-mod a b m = ap (λ (x : ℕ). x % m) (mul_comm a (b % m)) ∙ mod-mul-mod b a m ∙ ap (λ (x : ℕ). x % m) (mul_comm b a)

-- factors may be replaced by others of the same remainder
pub mul_cong : (m a b x y : ℕ) → a % m ≡ x % m → b % m ≡ y % m → (a * b) % m ≡ (x * y) % m
mul_cong m a b x y e f =
    sym (mod-mul-mod a b m) ∙ sym (mul-mod-mod (a % m) b m) ∙ (λ i. (e i * f i) % m) ∙ mul-mod-mod (x % m) y m ∙ mod-mul-mod x y m

pub pow_cong : (m a x k : ℕ) → a % m ≡ x % m → (a ^ k) % m ≡ (x ^ k) % m
pow_cong m a x zero e = ap (λ (y : ℕ). y % m) (pow-zero a ∙ sym (pow-zero x))
pow_cong m a x (suc k) e =
    ap (λ (y : ℕ). y % m) (pow-suc a k) ∙ mul_cong m (a ^ k) a (x ^ k) x (pow_cong m a x k e) e ∙ ap (λ (y : ℕ). y % m) (sym (pow-suc x k))

square_step : (s b : ℕ) → s * s * (b * b) ≡ s * b * (s * b)
square_step s b = omega arith

pub square_pow : (b k : ℕ) → (b * b) ^ k ≡ b ^ k * b ^ k
square_pow b zero = pow-zero (b * b) ∙ sym (λ i. pow-zero b i * pow-zero b i)
square_pow b (suc k) =
    pow-suc (b * b) k ∙ ap (λ (x : ℕ). x * (b * b)) (square_pow b k) ∙ square_step (b ^ k) b ∙ sym (λ i. pow-suc b k i * pow-suc b k i)

pub even_pow : (b h k : ℕ) → k ≡ h + h → b ^ k ≡ (b * b) ^ h
even_pow b h k e = ap (λ (x : ℕ). b ^ x) e ∙ pow-add b h h ∙ sym (square_pow b h)

pub odd_pow : (b h k : ℕ) → k ≡ suc (h + h) → b ^ k ≡ (b * b) ^ h * b
odd_pow b h k e = ap (λ (x : ℕ). b ^ x) e ∙ pow-suc b (h + h) ∙ ap (λ (x : ℕ). x * b) (even_pow b h (h + h) refl)

-- a turn of square-and-multiply
product : (s a b : ℕ) → a * b * s ≡ a * (s * b)
product s a b = omega arith

pub odd_step : (m acc b k acc' b' : ℕ) → acc' ≡ acc * b % m → b' ≡ b * b % m → k ≡ suc (k / 2 + k / 2) → (acc' * b' ^ (k / 2)) % m ≡ (acc * b ^ k) % m
odd_step m acc b k acc' b' e f g =
    mul_cong m acc' (b' ^ (k / 2)) (acc * b) ((b * b) ^ (k / 2))
    (ap (λ (x : ℕ). x % m) e ∙ mod-mod (acc * b) m)
    (pow_cong m b' (b * b) (k / 2) (ap (λ (x : ℕ). x % m) f ∙ mod-mod (b * b) m))
    ∙ ap (λ (x : ℕ). x % m) (product ((b * b) ^ (k / 2)) acc b ∙ ap (λ (x : ℕ). acc * x) (sym (odd_pow b (k / 2) k g)))

pub even_step : (m acc b k acc' b' : ℕ) → acc' ≡ acc → b' ≡ b * b % m → k ≡ k / 2 + k / 2 → (acc' * b' ^ (k / 2)) % m ≡ (acc * b ^ k) % m
even_step m acc b k acc' b' e f g =
    mul_cong m acc' (b' ^ (k / 2)) acc ((b * b) ^ (k / 2)) (ap (λ (x : ℕ). x % m) e)
    (pow_cong m b' (b * b) (k / 2) (ap (λ (x : ℕ). x % m) f ∙ mod-mod (b * b) m))
    ∙ ap (λ (x : ℕ). (acc * x) % m) (sym (even_pow b (k / 2) k g))

pub last_step : (m acc b k : ℕ) → acc < m → k ≡ 0 → acc ≡ (acc * b ^ k) % m
last_step m acc b k h e =
    sym (mod-eq_of_lt h) ∙ ap (λ (x : ℕ). x % m) (sym (ap (λ (x : ℕ). acc * x) (ap (λ (x : ℕ). b ^ x) e ∙ pow-zero b) ∙ mul-one acc))

-- chains of powers: each product of a power x^i and a power x^j is the power x^(i + j)
pub rem : (m y : ℕ) {r : ℕ} → r ≡ y % m → r % m ≡ y % m
rem m y e = ap (λ (z : ℕ). z % m) e ∙ mod-mod y m

pub pow_one : (m x : ℕ) → x % m ≡ (x ^ 1) % m
pow_one m x = ap (λ (z : ℕ). z % m) (sym (pow-suc x 0 ∙ ap (λ (z : ℕ). z * x) (pow-zero x) ∙ one-mul x))

pub pow-next : (m x i j a b : ℕ) {r : ℕ} → a % m ≡ (x ^ i) % m → b % m ≡ (x ^ j) % m → r ≡ (a * b) % m → r ≡ (x ^ (i + j)) % m
pow-next m x i j a b e f g = g ∙ mul_cong m a b (x ^ i) (x ^ j) e f ∙ ap (λ (z : ℕ). z % m) (sym (pow-add x i j))

-- the inner remainders of a sum of products go: `simp strip`
pub ruleset strip = (mod-add-mod, add-mod-mod, mod-mul-mod, mul-mod-mod, mod-mod)

pub same-mod : (m x y : ℕ) → x ≡ y → x % m ≡ y % m
same-mod m x y e = ap (λ (z : ℕ). z % m) e

-- equal but for multiples of m
pub same_by : (m x y i j : ℕ) → x + i * m ≡ y + j * m → x % m ≡ y % m
same_by m x y i j e = sym (add-mul-mod_self_right x i m) ∙ ap (λ (z : ℕ). z % m) e ∙ add-mul-mod_self_right y j m

-- equal remainders, in sums
pub apart : (m x y : ℕ) → x % m ≡ y % m → x + y / m * m ≡ y + x / m * m
apart m x y e = omega (arith, div-add-mod' x m, div-add-mod' y m)

pub add_cong : (m a b x y : ℕ) → a % m ≡ x % m → b % m ≡ y % m → (a + b) % m ≡ (x + y) % m
add_cong m a b x y e f = sym (mod-add-mod a m b) ∙ sym (add-mod-mod (a % m) b m) ∙ (λ i. (e i + f i) % m) ∙ add-mod-mod (x % m) y m ∙ mod-add-mod x m y

-- a sum of three products with remainders
pub linear : (m i j k x y z : ℕ) → (i * (x % m) + j * (y % m) + k * (z % m)) % m ≡ (i * x + j * y + k * z) % m
linear m i j k x y z =
    add_cong m (i * (x % m) + j * (y % m)) (k * (z % m)) (i * x + j * y) (k * z)
    (add_cong m (i * (x % m)) (j * (y % m)) (i * x) (j * y) (mul-mod-mod i x m) (mul-mod-mod j y m))
    (mul-mod-mod k z m)

-- ---- numbers that are 0 modulo m

pub zero_times : (m k x : ℕ) → x % m ≡ 0 → (k * x) % m ≡ 0
zero_times m k x e = sym (mul-mod-mod k x m) ∙ ap (λ (z : ℕ). (k * z) % m) e ∙ same-mod m _ _ (mul-zero k) ∙ zero-mod m

pub zero_plus : (m x y : ℕ) → x % m ≡ 0 → y % m ≡ 0 → (x + y) % m ≡ 0
zero_plus m x y e f = sym (mod-add-mod x m y) ∙ ap (λ (z : ℕ). (z + y) % m) e ∙ same-mod m _ _ (zero-add y) ∙ f

-- what is left when y is 0
pub zero_rest : (m x y : ℕ) → (x + y) % m ≡ 0 → y % m ≡ 0 → x % m ≡ 0
zero_rest m x y e f = same-mod m _ _ (sym (add-zero x)) ∙ ap (λ (z : ℕ). (x + z) % m) (sym f) ∙ add-mod-mod x y m ∙ e
