-- The binary digits of numbers.
use Rattle.std.specs.Prelude.{ℕ, zero, suc, ◌+◌, ◌*◌, ◌/◌, ◌%◌, eqb}
use Rattle.choices.specs.Choice.{cond}

-- how many of the n lowest digits are 1
unfoldable pub ones_of : ℕ → ℕ → ℕ
ones_of zero a = 0
ones_of (suc n) a = a % 2 + ones_of n (a / 2)

-- the place of the highest digit that is 1, of a number other than 0 with at most n + 1 digits
unfoldable pub highest_of : ℕ → ℕ → ℕ
highest_of zero a = 0
highest_of (suc n) a = cond (eqb (a / 2) 0) 0 (1 + highest_of n (a / 2))

-- digit by digit, both 1
unfoldable pub both_of : ℕ → ℕ → ℕ → ℕ
both_of zero a b = 0
both_of (suc n) a b = a % 2 * (b % 2) + 2 * both_of n (a / 2) (b / 2)

-- digit by digit, one of them 1 and not both
unfoldable pub either_of : ℕ → ℕ → ℕ → ℕ
either_of zero a b = 0
either_of (suc n) a b = (a % 2 + b % 2) % 2 + 2 * either_of n (a / 2) (b / 2)
