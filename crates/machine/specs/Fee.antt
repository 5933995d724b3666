-- What steps cost, by a fee table, read off the machines that they pass.
use Rattle.std.specs.Prelude.{ℕ, ◌+◌, List, [], ◌∷◌}
use Rattle.machine.specs.Machine.{Machine}
use Rattle.machine.specs.Decide.{opcode_of}
use Rattle.machine.specs.Apply.{Outcome, took, kept, lost}
use Rattle.machine.specs.FeeTable.{row_for, price_of, Fees, unpriced, priced}

-- what a step with opcode o costs: nothing without a table
abbrev pub price_in : Fees → ℕ → ℕ
price_in unpriced o = 0
price_in (priced t) o = price_of t o

-- what the steps from m through the machines cost, each by the opcode that it starts at
unfoldable pub fee_from : (ℕ → ℕ) → Machine → List Machine → ℕ
fee_from price m [] = 0
fee_from price m (x ∷ xs) = price (opcode_of m) + fee_from price x xs

abbrev pub fee_of : Fees → Machine → List Machine → ℕ
fee_of f = fee_from (price_in f)

-- the row that priced a step from m, which it names; a refused step costs nothing and names row 0
abbrev pub row_in : Fees → ℕ → ℕ
row_in unpriced o = 0
row_in (priced t) o = row_for t o

abbrev pub row_named : Fees → Machine → Outcome → ℕ
row_named f m (took x) = row_in f (opcode_of m)
row_named f m (kept r) = 0
row_named f m (lost r x) = 0
