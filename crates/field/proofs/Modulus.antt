-- p = 2^64 - 2^32 + 1 is prime, and what follows for powers and products of words. Assumes nothing.
use mathlib.Core.Path.{◌≡◌, refl}
use mathlib.Core.Logic.{◌≢◌}
use Prim.Native.Nat.{ℕ, ◌-◌, ◌%◌}
use lib.Dec.{lit<}
use Rattle.field.specs.Base.{p, mul_p, pow_p}
use Rattle.field.proofs.Prime.{Prime, euclid}
use Rattle.field.proofs.Fermat.{fermat, fermat_unit}
use Rattle.field.proofs.Proth.{squares, proth}
use Rattle.field.proofs.Ring.{minus_one}

-- 7 ^ (2 ^ 32 - 1), squared 31 times, is -1
witness : squares p 31 0x185629dcda58878c ≡ minus_one
unfolding squares
witness = refl

pub p-prime : Prime p
p-prime = proth minus_one 31 0x185629dcda58878c witness refl (lit< tt) (lit< tt)

-- Fermat's theorem
pub pow_p_fermat : (a : ℕ) → pow_p a p ≡ a % p
pow_p_fermat a = fermat minus_one a p-prime

pub pow_p_unit : (a : ℕ) → a % p ≢ 0 → pow_p a (p - 1) ≡ 1
pow_p_unit a h = fermat_unit minus_one a p-prime h

-- a product is 0 only if a factor is
pub no_zero_divisor : (a b : ℕ) → mul_p a b ≡ 0 → a % p ≢ 0 → b % p ≡ 0
no_zero_divisor a b e h = euclid minus_one a b p-prime e h
