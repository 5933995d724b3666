-- A word other than 0 times its inverse is 1, and no other word is its inverse. Assumes nothing.
use mathlib.Core.Path.{◌≡◌, refl, sym, ap, ◌∙◌}
use mathlib.Core.Logic.{◌≢◌}
use Prim.Native.Nat.{ℕ, suc, ◌*◌, ◌%◌, ◌^◌, ◌<◌}
use native.Mathlib.Nat.{mod-eq_of_lt, mod-mod, pow-suc, mul_comm, mul-one, mul-zero, zero-mul}
use native.Mathlib.Omega.{arith}
use lib.Dec.{lit<}
use Rattle.field.specs.Base.{p, mul_p, pow_p, inverse_p}
use Rattle.field.proofs.Remainder.{mul_cong, mod-mul-mod, mul-mod-mod, same-mod}
use Rattle.field.proofs.Prime.{Prime, cancel}
use Rattle.field.proofs.Fermat.{fermat_unit}
use Rattle.field.proofs.Modulus.{p-prime}

-- ---- modulo any prime, w + 2

inverse-pow : (w a : ℕ) → Prime (suc (suc w)) → a % suc (suc w) ≢ 0 → (a * (a ^ w % suc (suc w))) % suc (suc w) ≡ 1
inverse-pow w a P h = mul-mod-mod a (a ^ w) (suc (suc w)) ∙ same-mod (suc (suc w)) _ _ (mul_comm a (a ^ w) ∙ sym (pow-suc a w)) ∙ fermat_unit (suc w) a P h

inverse_unique : (q a b c : ℕ) → 1 < q → (a * b) % q ≡ 1 → (a * c) % q ≡ 1 → b % q ≡ c % q
inverse_unique q a b c h e f =
    sym (cancel q a b c h f) ∙ mul_cong q c (a * b) c 1 refl (e ∙ sym (mod-eq_of_lt h)) ∙ same-mod q _ _ (mul-one c)

-- ---- modulo p

pub inverse_p-is : (a : ℕ) → a % p ≢ 0 → mul_p a (inverse_p a) ≡ 1
inverse_p-is a h = inverse-pow 0xffff_fffe_ffff_ffff a p-prime h

-- of a word
pub inverse_p_word : (a : ℕ) → a < p → 0 < a → mul_p a (inverse_p a) ≡ 1
inverse_p_word a l h = inverse_p-is a (λ e. some (sym (mod-eq_of_lt l) ∙ e))
  where
    some : a ≢ 0
    some e = omega arith

-- what has an inverse is not 0
some : (a b : ℕ) → mul_p a b ≡ 1 → a % p ≢ 0
some a b e z = zero_one (sym (ap (λ (x : ℕ). (x * b) % p) (sym z) ∙ mod-mul-mod a b p ∙ e) ∙ same-mod p _ _ (zero-mul b))
  where
    zero_one : ◌≡◌ {A = ℕ} 1 0 → ⊥
    zero_one e = omega arith

pub inverse_p_only : (a b : ℕ) → b < p → mul_p a b ≡ 1 → b ≡ inverse_p a
inverse_p_only a b l e =
    sym (mod-eq_of_lt l)
    ∙ inverse_unique p a b (inverse_p a) (lit< tt) e (inverse_p-is a (some a b e))
    ∙ mod-mod (a ^ 0xffff_fffe_ffff_ffff) p

-- the exponent is a variable, since a closed power would be computed
zero_pow : (w : ℕ) → pow_p 0 (suc w) ≡ 0
zero_pow w = same-mod p _ _ (pow-suc 0 w ∙ mul-zero (0 ^ w))

pub inverse_p_zero : inverse_p 0 ≡ 0
inverse_p_zero = zero_pow 0xffff_fffe_ffff_fffe
