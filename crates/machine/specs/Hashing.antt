-- The instructions that hash with Tip5, and assert_vector.
use Rattle.std.specs.Prelude.{ℕ, zero, suc, ◌+◌, true, List, [], ◌∷◌, ◌++◌, get_or, drop, replicate, eqb}
use Rattle.field.specs.Base.{add_p}
use Rattle.tip5.specs.declared.sponge.Sponge.{Sponge}
use Rattle.tip5.specs.Permutation.{trace_of}
use Rattle.choices.specs.Choice.{cond}
use Rattle.machine.specs.Refusal.{sponge_not_initialized, vector_assertion_failed}
use Rattle.machine.specs.Ram.{Cells}
use Rattle.machine.specs.Machine.{st}
use Rattle.machine.specs.Effect.{Call, reset, tip5, Effect, Decision, acts, refuses, SpongeChange, becomes, recording, puts, sponging}
use Rattle.machine.specs.Memory.{words_up, reads_up}

-- the last of a trace's six states
abbrev pub last_state : List ℕ → List ℕ
last_state trace = drop 80 trace

-- ST i, ST (i + 1), .., n of them
unfoldable pub from_top : List ℕ → ℕ → ℕ → List ℕ
from_top w i zero = []
from_top w i (suc n) = st w i ∷ from_top w (i + 1) n

-- the first n words of a list, the last of them first: put on in this order, word 0 lies on top
unfoldable pub reversed : List ℕ → ℕ → List ℕ
reversed s zero = []
reversed s (suc n) = get_or s n 0 ∷ reversed s n

-- ten words, and six ones: hashing of a fixed length
abbrev pub fixed_length : List ℕ → List ℕ
fixed_length ten = ten ++ replicate 6 1

unfoldable pub hashed : List ℕ → Effect
hashed trace = recording (tip5 18 trace ∷ []) 10 (reversed (last_state trace) 5)

unfoldable pub hash_of : List ℕ → Decision
hash_of w = acts (hashed (trace_of (fixed_length (from_top w 0 10))))

-- ---- the sponge

-- the sponge after a permutation
abbrev pub sponged : List ℕ → SpongeChange
sponged trace = becomes (record { words = last_state trace; set = true })

unfoldable pub sponge_init_of : Decision
sponge_init_of = acts (sponging (becomes (record { words = replicate 16 0; set = true })) (reset ∷ []) 0 [])

-- goes on where the sponge is set
abbrev pub sponge_only : Sponge → Decision → Decision
sponge_only s d = cond s.set d (refuses sponge_not_initialized)

-- the rate is overwritten by ten words
abbrev pub overwritten : Sponge → List ℕ → List ℕ
overwritten s ten = ten ++ drop 10 s.words

unfoldable pub absorbed : List ℕ → Effect
absorbed trace = sponging (sponged trace) (tip5 34 trace ∷ []) 10 []

unfoldable pub sponge_absorb_of : Sponge → List ℕ → Decision
sponge_absorb_of s w = sponge_only s (acts (absorbed (trace_of (overwritten s (from_top w 0 10)))))

-- _ d c b a m becomes _ w3 w2 w1 w0 (m + 10)
unfoldable pub absorbed_mem : List ℕ → List Call → ℕ → List ℕ → Effect
absorbed_mem ten reads m trace = sponging (sponged trace) (reads ++ (tip5 34 trace ∷ [])) 5 (reversed ten 4 ++ (add_p m 10 ∷ []))

unfoldable pub sponge_absorb_mem_of : Sponge → Cells → List ℕ → Decision
sponge_absorb_mem_of s c w =
    sponge_only s (acts (absorbed_mem (words_up c (st w 0) 10) (reads_up c (st w 0) 10) (st w 0) (trace_of (overwritten s (words_up c (st w 0) 10)))))

unfoldable pub squeezed : Sponge → List ℕ → Effect
squeezed s trace = sponging (sponged trace) (tip5 56 trace ∷ []) 0 (reversed s.words 10)

unfoldable pub sponge_squeeze_of : Sponge → Decision
sponge_squeeze_of s = sponge_only s (acts (squeezed s (trace_of s.words)))

-- ---- assert_vector

-- the first of the places i, i + 1, .. at which ST i and ST (i + 5) differ is refused
unfoldable pub assert_from : List ℕ → ℕ → ℕ → Decision
assert_from w i zero = acts (puts 5 [])
assert_from w i (suc n) = cond (eqb (st w i) (st w (i + 5))) (assert_from w (i + 1) n) (refuses (vector_assertion_failed i (st w i) (st w (i + 5))))

unfoldable pub assert_vector_of : List ℕ → Decision
unfolding assert_from
assert_vector_of w = assert_from w 0 5
