-- Tip5: the permutation and its trace.
use Rattle.std.specs.Prelude.{◌≡◌, List, ◌++◌, ℕ, zero, suc, drop}
use Rattle.tip5.specs.Words.{Words}
use Rattle.tip5.specs.Round.{round_of}

-- the state after n rounds
unfoldable pub state_of : ℕ → List ℕ → List ℕ
state_of zero s = s
state_of (suc r) s = round_of r (state_of r s)

-- Tip5: 5 rounds
unfoldable pub permutation_of : List ℕ → List ℕ
permutation_of s = state_of 5 s

-- the states before round 0 and after each of n rounds
unfoldable pub states_of : ℕ → List ℕ → List ℕ
states_of zero s = s
states_of (suc n) s = states_of n s ++ state_of (suc n) s

-- Tip5: a trace is the state before round 0 and after each of the five rounds: 6 states
unfoldable pub trace_of : List ℕ → List ℕ
trace_of s = states_of 5 s

-- what `permuted` makes of s: words
pub record Permuted (s r : List ℕ) : Type 0 where
  pub is : r ≡ permutation_of s
  pub words : Words r

-- what `trace` makes of s: its last state is the permutation, and its elements are words where those of s are
pub record Traced (s r : List ℕ) : Type 0 where
  pub is : r ≡ trace_of s
  pub last : drop 80 r ≡ permutation_of s
  pub words : Words s → Words r
