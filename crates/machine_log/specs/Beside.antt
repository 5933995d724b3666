-- What a step records besides its effect's calls and the op stack's.
use Rattle.std.specs.Prelude.{ℕ, ◌+◌, ◌≤◌, List, [], ◌∷◌, ◌++◌, length}
use Rattle.machine_log.specs.declared.calls.Besides.{Besides}
use Rattle.machine_log.specs.declared.calls.Besides.TheVariants.{Nothing, Reset, First, Last}
use Rattle.machine_effects.specs.declared.effect.Effect.{Effect}
use Rattle.machine.specs.Effect.{Call, reset, tip5}
use Rattle.machine_log.specs.Logged.{tip5_bytes, call_bytes, stack_bytes, Deep}

-- with an effect's own calls
abbrev pub with_besides : Besides → List Call → List Call
with_besides Nothing cs = cs
with_besides Reset cs = reset ∷ cs
with_besides (First o t) cs = tip5 o t.now ∷ cs
with_besides (Last o t) cs = cs ++ (tip5 o t.now ∷ [])

-- what stands before them, and behind
abbrev pub calls_before : Besides → List Call
calls_before Nothing = []
calls_before Reset = reset ∷ []
calls_before (First o t) = tip5 o t.now ∷ []
calls_before (Last o t) = []

abbrev pub calls_behind : Besides → List Call
calls_behind Nothing = []
calls_behind Reset = []
calls_behind (First o t) = []
calls_behind (Last o t) = tip5 o t.now ∷ []

-- how many bytes that takes
abbrev pub bytes_before : ℕ → Besides → ℕ
bytes_before v Nothing = 0
bytes_before v Reset = 4
bytes_before v (First o t) = tip5_bytes v
bytes_before v (Last o t) = 0

abbrev pub bytes_behind : ℕ → Besides → ℕ
bytes_behind v Nothing = 0
bytes_behind v Reset = 0
bytes_behind v (First o t) = 0
bytes_behind v (Last o t) = tip5_bytes v

abbrev pub besides_bytes : ℕ → Besides → ℕ
besides_bytes v x = bytes_before v x + bytes_behind v x

-- what a step asks for, of a log of revision v
pub record LogRoom (v : ℕ) (x : Besides) (e : Effect) (s b : List ℕ) (d d2 : ℕ) : Type 0 where
  pub deep : Deep s d d2
  pub room : besides_bytes v x + call_bytes v e + stack_bytes d d2 ≤ length b
