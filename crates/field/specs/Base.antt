-- Words: the numbers modulo p = 2^64 - 2^32 + 1. Each operation is a number's remainder, for any numbers handed to it.
use Rattle.std.specs.Prelude.{ℕ, ◌+◌, ◌*◌, ◌-◌, ◌%◌, ◌^◌}

abbrev pub p : ℕ
p = 0xffff_ffff_0000_0001

abbrev pub add_p : ℕ → ℕ → ℕ
add_p a b = (a + b) % p

abbrev pub neg_p : ℕ → ℕ
neg_p a = (p - a % p) % p

abbrev pub sub_p : ℕ → ℕ → ℕ
sub_p a b = (a + (p - b % p)) % p

abbrev pub mul_p : ℕ → ℕ → ℕ
mul_p a b = (a * b) % p

-- b to the e; 0 to the 0 is 1
abbrev pub pow_p : ℕ → ℕ → ℕ
pow_p b e = (b ^ e) % p

-- The inverse, and 0 for 0. That a word other than 0 times it is 1, and no other word is, are laws (proofs/Inverse.antt).
abbrev pub inverse_p : ℕ → ℕ
inverse_p a = pow_p a (p - 2)
