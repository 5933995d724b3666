-- Merkle steps and dot-product steps.
use Rattle.std.specs.Prelude.{ℕ, ◌/◌, ◌%◌, List, [], ◌∷◌, ◌++◌, length, take, eqb, ltb}
use Rattle.field.specs.declared.extension.XFieldElement.{XFieldElement}
use Rattle.field.specs.Base.{add_p}
use Rattle.field.specs.Extension.{xfe, add_x, mul_x, scale_x}
use Rattle.tip5.specs.Permutation.{trace_of}
use Rattle.choices.specs.Choice.{cond}
use Rattle.machine.specs.Refusal.{empty_secret_digest_input}
use Rattle.machine.specs.Ram.{Cells, held}
use Rattle.machine.specs.Machine.{st}
use Rattle.machine.specs.Effect.{Call, tip5, u32, ram_read, Effect, Decision, acts, unless, u32_only, drawing, recording}
use Rattle.machine.specs.Memory.{words_up, reads_up}
use Rattle.machine.specs.Hashing.{last_state, from_top, reversed, fixed_length}
use Rattle.machine.specs.Arithmetic.{xst, words_x}

-- left and right: the node's own digest stands left where its index is even
unfoldable pub siblings : ℕ → List ℕ → List ℕ → List ℕ
siblings index own sibling = cond (eqb (index % 2) 0) (own ++ sibling) (sibling ++ own)

abbrev pub merkle_trace : List ℕ → List ℕ → List ℕ
merkle_trace w sibling = trace_of (fixed_length (siblings (st w 5) (from_top w 0 5) sibling))

-- the parent's index and, above it, the parent's digest, word 0 on top
abbrev pub parent : List ℕ → List ℕ → List ℕ
parent w trace = st w 5 / 2 ∷ reversed (last_state trace) 5

abbrev pub merkle_calls : List ℕ → List ℕ → List Call
merkle_calls w trace = tip5 18 trace ∷ u32 4 (st w 5) (st w 5 / 2) ∷ []

unfoldable pub merkle_stepped : List ℕ → List ℕ → Effect
merkle_stepped w trace = drawing 0 0 1 (merkle_calls w trace) 6 (parent w trace)

-- left: the words of the secret digests not yet taken
unfoldable pub merkle_step_of : List ℕ → List ℕ → Decision
merkle_step_of left w = u32_only (st w 5) (unless (ltb (length left) 5) empty_secret_digest_input (acts (merkle_stepped w (merkle_trace w (take 5 left)))))

-- the sibling stands in RAM from ST 7 on, which goes up by five
unfoldable pub merkle_stepped_mem : Cells → List ℕ → List ℕ → Effect
merkle_stepped_mem c w trace = recording (merkle_calls w trace ++ reads_up c (st w 7) 5) 8 (add_p (st w 7) 5 ∷ st w 6 ∷ parent w trace)

unfoldable pub merkle_step_mem_of : Cells → List ℕ → Decision
merkle_step_mem_of c w = u32_only (st w 5) (acts (merkle_stepped_mem c w (merkle_trace w (words_up c (st w 7) 5))))

-- ---- dot products: the accumulator stands in ST 2 to ST 4

-- the extension word in RAM at a
abbrev pub xheld : Cells → ℕ → XFieldElement
xheld c a = xfe (held c a) (held c (add_p a 1)) (held c (add_p a 2))

abbrev pub read_at : Cells → ℕ → Call
read_at c a = ram_read a (held c a)

unfoldable pub xx_dot_step_of : Cells → List ℕ → Decision
xx_dot_step_of c w =
    acts
    (recording
    (read_at c (st w 0) ∷ read_at c (st w 1) ∷ read_at c (add_p (st w 0) 1) ∷ read_at c (add_p (st w 1) 1) ∷ read_at c (add_p (st w 0) 2) ∷ read_at c (add_p (st w 1) 2) ∷ [])
    5
    (words_x (add_x (xst w 2) (mul_x (xheld c (st w 0)) (xheld c (st w 1)))) ++ (add_p (st w 1) 3 ∷ add_p (st w 0) 3 ∷ [])))

unfoldable pub xb_dot_step_of : Cells → List ℕ → Decision
xb_dot_step_of c w =
    acts
    (recording
    (read_at c (st w 0) ∷ read_at c (st w 1) ∷ read_at c (add_p (st w 1) 1) ∷ read_at c (add_p (st w 1) 2) ∷ [])
    5
    (words_x (add_x (xst w 2) (scale_x (held c (st w 0)) (xheld c (st w 1)))) ++ (add_p (st w 1) 3 ∷ add_p (st w 0) 1 ∷ [])))
