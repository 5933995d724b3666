-- Fermat's little theorem. Assumes nothing.
use mathlib.Core.Path.{◌≡◌, refl, sym, ap, ◌∙◌}
use mathlib.Core.Logic.{◌≢◌}
use Prim.Native.Nat.{ℕ, zero, suc, ◌+◌, ◌*◌, ◌%◌, ◌^◌, ◌<◌, ◌≤◌}
use native.Mathlib.Nat.{pow-suc, mod-eq_of_lt, zero-mod, mod-add-mod, add-mod-mod, mul-zero, zero-mul, add-zero, mul-one, one-mul, mul-mod_right, mul_assoc}
use native.Mathlib.Omega.{arith}
use Rattle.field.proofs.Remainder.{mul_cong, mod-mul-mod}
use Rattle.field.proofs.Prime.{Prime, inverse, euclid}
use Rattle.field.proofs.Binomial.{choose, choose-all, absorb, part, part_zero, part-suc, binomial}

-- a prime divides the coefficients between the first and the last
middle : (w k : ℕ) → Prime (suc w) → k < w → choose (suc w) (suc k) % suc w ≡ 0
middle w k P h =
    euclid w (suc k) (choose (suc w) (suc k)) P
    (ap (λ (z : ℕ). z % suc w) (absorb w k) ∙ mul-mod_right (suc w) (choose w k))
    (λ (e : suc k % suc w ≡ 0). let f : suc k % suc w ≡ suc k = mod-eq_of_lt (omega arith) in omega arith)

-- a term that q divides goes
drop_term : (q s c x r : ℕ) → s % q ≡ r % q → c % q ≡ 0 → (s + c * x) % q ≡ r % q
drop_term q s c x r e f =
    sym (add-mod-mod s (c * x) q)
    ∙ ap (λ (z : ℕ). (s + z) % q) (sym (mod-mul-mod c x q) ∙ ap (λ (z : ℕ). (z * x) % q) f ∙ ap (λ (z : ℕ). z % q) (zero-mul x) ∙ zero-mod q)
    ∙ ap (λ (z : ℕ). z % q) (add-zero s)
    ∙ e

parts : (w a m : ℕ) → Prime (suc w) → m ≤ w → part a (suc w) m % suc w ≡ 1 % suc w
parts w a zero P h = ap (λ (z : ℕ). z % suc w) (part_zero a (suc w))
parts w a (suc m) P h =
    ap (λ (z : ℕ). z % suc w) (part-suc a (suc w) m)
    ∙ drop_term (suc w) (part a (suc w) m) (choose (suc w) (suc m)) (a ^ suc m) 1 (parts w a m P (omega arith)) (middle w m P (omega arith))

-- (a + 1) ^ q is 1 + a ^ q
sum-power : (w a : ℕ) → Prime (suc w) → (suc a ^ suc w) % suc w ≡ (1 + a ^ suc w) % suc w
sum-power w a P =
    ap (λ (z : ℕ). z % suc w)
    (sym (binomial a (suc w)) ∙ part-suc a (suc w) w ∙ ap (λ (z : ℕ). part a (suc w) w + z * a ^ suc w) (choose-all (suc w)) ∙ ap (λ (z : ℕ). part a (suc w) w + z) (one-mul (a ^ suc w)))
    ∙ sym (mod-add-mod (part a (suc w) w) (suc w) (a ^ suc w))
    ∙ ap (λ (z : ℕ). (z + a ^ suc w) % suc w) (parts w a w P (omega arith))
    ∙ mod-add-mod 1 (suc w) (a ^ suc w)

pub fermat : (w a : ℕ) → Prime (suc w) → (a ^ suc w) % suc w ≡ a % suc w
fermat w zero P = ap (λ (z : ℕ). z % suc w) (pow-suc 0 w ∙ mul-zero (0 ^ w))
fermat w (suc a) P =
    sum-power w a P
    ∙ sym (add-mod-mod 1 (a ^ suc w) (suc w))
    ∙ ap (λ (z : ℕ). (1 + z) % suc w) (fermat w a P)
    ∙ add-mod-mod 1 a (suc w)
    ∙ ap (λ (z : ℕ). z % suc w) (omega arith)

-- and with no factor a
pub fermat_unit : (w a : ℕ) → Prime (suc w) → a % suc w ≢ 0 → (a ^ w) % suc w ≡ 1
fermat_unit w a P h =
    let v = inverse w P a h in
    ap (λ (z : ℕ). z % suc w) (sym (mul-one (a ^ w)))
    ∙ sym (mul_cong (suc w) (a ^ w) (a * v.of) (a ^ w) 1 refl (v.is ∙ sym (mod-eq_of_lt P.big)))
    ∙ ap (λ (z : ℕ). z % suc w) (sym (mul_assoc (a ^ w) a v.of) ∙ ap (λ (z : ℕ). z * v.of) (sym (pow-suc a w)))
    ∙ mul_cong (suc w) (a ^ suc w) v.of a v.of (fermat w a P) refl
    ∙ v.is
