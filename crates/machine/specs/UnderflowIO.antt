-- The op-stack records as op_stack.rs makes them: every push and pop recorded one by one, adjacent equal pairs cancelled, and an
-- entry made of what is left. That a step's records are these is a theorem (proofs/Cancels.antt).
use Rattle.std.specs.Prelude.{ℕ, zero, suc, ◌+◌, ◌-◌, Bool, true, false, List, [], ◌∷◌, ◌++◌, length, get_or, take, eqb, ltb}
use Rattle.choices.specs.Choice.{cond}
use Rattle.machine.specs.Machine.{Machine}
use Rattle.machine.specs.Effect.{Effect}
use Rattle.machine.specs.Records.{Record, stack}

pub data UnderflowIO : Type 0 where
  read : ℕ → UnderflowIO
  write : ℕ → UnderflowIO

-- ---- one by one: s is the whole stack, bottom first

-- the word at pointer q; 0 where there is none below the top sixteen
unfoldable pub underflow_at : List ℕ → ℕ → ℕ
underflow_at s q = cond (ltb q 16) 0 (get_or s (q - 16) 0)

-- the first word below the top sixteen
unfoldable pub first_underflow : List ℕ → ℕ
first_underflow s = underflow_at s (length s - 1)

-- n pops: each records before it takes the word off
unfoldable pub poppings : ℕ → List ℕ → List UnderflowIO
poppings zero s = []
poppings (suc n) s = read (first_underflow s) ∷ poppings n (take (length s - 1) s)

-- the pushes of words: each records after it has put the word on
unfoldable pub pushings : List ℕ → List ℕ → List UnderflowIO
pushings [] s = []
pushings (x ∷ w) s = write (first_underflow (s ++ (x ∷ []))) ∷ pushings w (s ++ (x ∷ []))

-- n pops, then the pushes
unfoldable pub sequence_of : List ℕ → ℕ → List ℕ → List UnderflowIO
sequence_of s n w = poppings n s ++ pushings w (take (length s - n) s)

-- ---- canonicalize_sequence

abbrev pub is_dual : UnderflowIO → UnderflowIO → Bool
is_dual (read a) (write b) = eqb a b
is_dual (write a) (read b) = eqb a b
is_dual (read a) (read b) = false
is_dual (write a) (write b) = false

-- the first adjacent pair of a read and a write of the same value taken out, where there is one
unfoldable pub pair_removed : List UnderflowIO → List UnderflowIO
pair_removed [] = []
pair_removed (x ∷ []) = x ∷ []
pair_removed (x ∷ y ∷ l) = cond (is_dual x y) l (x ∷ pair_removed (y ∷ l))

unfoldable pub pairs_removed : ℕ → List UnderflowIO → List UnderflowIO
pairs_removed zero l = l
pairs_removed (suc n) l = pairs_removed n (pair_removed l)

-- there are fewer pairs than elements
unfoldable pub canonicalized : List UnderflowIO → List UnderflowIO
canonicalized l = pairs_removed (length l) l

-- ---- from_underflow_io_sequence

abbrev pub is_read : UnderflowIO → Bool
is_read (read v) = true
is_read (write v) = false

abbrev pub is_write : UnderflowIO → Bool
is_write (read v) = false
is_write (write v) = true

unfoldable pub all_of : (UnderflowIO → Bool) → List UnderflowIO → Bool
all_of f [] = true
all_of f (x ∷ l) = cond (f x) (all_of f l) false

-- all reads or all writes
unfoldable pub is_uniform : List UnderflowIO → Bool
is_uniform l = cond (all_of is_read l) true (all_of is_write l)

-- entries at a clock from pointer q on
unfoldable pub entries_from : ℕ → ℕ → List UnderflowIO → List Record
entries_from t q [] = []
entries_from t q (read v ∷ l) = stack t (q - 1) 0 v ∷ entries_from t (q - 1) l
entries_from t q (write v ∷ l) = stack t q 1 v ∷ entries_from t (q + 1) l

-- q is the pointer after the sequence
unfoldable pub entries_of : ℕ → ℕ → List UnderflowIO → List Record
entries_of t q l = entries_from t (cond (all_of is_write l) (q - length l) (q + length l)) l

-- the pushes and pops of an effect
abbrev pub underflow_io : Machine → Effect → List UnderflowIO
underflow_io m e = sequence_of (take m.state.depth m.memory.op_stack) e.pops e.words
