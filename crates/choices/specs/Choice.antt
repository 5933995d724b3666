-- Choices by a test, and the first number that applies.
use Rattle.std.specs.Prelude.{ℕ, Bool, true, false, List, [], ◌∷◌, eqb, ltb}

abbrev pub cond : {A : Type 0} → Bool → A → A → A
cond true a b = a
cond false a b = b

-- the first of two numbers that is not 0: 'the first that applies is given'
unfoldable pub first_of : ℕ → ℕ → ℕ
first_of a b = cond (eqb a 0) b a

-- the first of a row
abbrev pub first_in : List ℕ → ℕ
first_in [] = 0
first_in (a ∷ []) = a
first_in (a ∷ b ∷ more) = first_of a (first_in (b ∷ more))

-- n where a is above b
unfoldable pub above_of : ℕ → ℕ → ℕ → ℕ
above_of a b n = cond (ltb b a) n 0

-- n where a and b differ
unfoldable pub differ_of : ℕ → ℕ → ℕ → ℕ
differ_of a b n = cond (eqb a b) 0 n
