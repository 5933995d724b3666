-- read_io and write_io.
use Rattle.std.specs.Prelude.{ℕ, List, [], length, take, ltb}
use Rattle.machine.specs.Refusal.{empty_public_input}
use Rattle.machine.specs.Effect.{Effect, Decision, acts, drawing, writing, unless}
use Rattle.machine.specs.Hashing.{from_top}

-- takes n public words and puts them on, the first taken lowest
abbrev pub taken : ℕ → List ℕ → Effect
taken n left = drawing n 0 0 [] 0 (take n left)

unfoldable pub read_io_of : ℕ → List ℕ → Decision
read_io_of n left = unless (ltb (length left) n) (empty_public_input (length left)) (acts (taken n left))

-- ST 0 goes out first
unfoldable pub write_io_of : List ℕ → ℕ → Decision
write_io_of w n = acts (writing n (from_top w 0 n))
