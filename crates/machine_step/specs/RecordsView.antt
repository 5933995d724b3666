-- What the code of a step's records relies on and promises.
use Rattle.std.specs.Prelude.{ℕ, ◌+◌, ◌≤◌, ◌≡◌, Bool, true, false, List, [], ◌++◌, length, drop, Result, Ok, Err}
use Rattle.machine.specs.declared.refusal.InstructionError.{InstructionError}
use Rattle.machine_effects.specs.declared.effect.Effect.{Effect}
use Rattle.machine_hashing.specs.declared.hashing.Recorded.{Recorded as CodeRecorded}
use Rattle.machine_log.specs.declared.calls.Besides.{Besides}
use Rattle.choices.specs.Choice.{cond}
use Rattle.machine.specs.Effect.{Call}
use Rattle.machine.specs.Records.{Record, log_bytes}
use Rattle.machine_hashing.specs.HashedView.{recorded_with}
use Rattle.machine_log.specs.Logged.{logged, stack_bytes, Deep}
use Rattle.machine_log.specs.Beside.{with_besides, LogRoom}

-- records are asked for, and the step was taken
abbrev pub asked_of : Bool → Result (Unit {0}) InstructionError → Bool
asked_of t (Ok _) = t
asked_of t (Err e) = false

-- the same is recorded besides an effect's calls
pub record Tells (r : CodeRecorded) (x : Besides) : Type 0 where
  pub is : (cs : List Call) → with_besides x cs ≡ recorded_with r cs

-- there is room where they are asked for
pub record Roomy (t : Bool) (v : ℕ) (x : Besides) (e : Effect) (s b : List ℕ) (d d2 : ℕ) : Type 0 where
  pub room : t ≡ true → LogRoom v x e s b d d2

-- b2 is b with the records' bytes at its start, or b
pub record Recorded (t : Bool) (v : ℕ) (b b2 : List ℕ) (rs : List Record) (n : ℕ) : Type 0 where
  pub buffer : b2 ≡ cond t (log_bytes v rs) [] ++ drop (length (cond t (log_bytes v rs) [])) b
  pub bytes : n ≡ length (cond t (log_bytes v rs) [])

-- ---- the op stack's alone, behind place at

pub record RoomyAt (t : Bool) (s b : List ℕ) (at d d2 : ℕ) : Type 0 where
  pub deep : t ≡ true → Deep s d d2
  pub room : t ≡ true → at + stack_bytes d d2 ≤ length b

-- b2 is b with the records' bytes from place at on, the same in every revision, or b
pub record RecordedAt (t : Bool) (b b2 : List ℕ) (at : ℕ) (rs : List Record) (next : ℕ) : Type 0 where
  pub buffer : (v : ℕ) → b2 ≡ logged b at (cond t (log_bytes v rs) [])
  pub place : (v : ℕ) → next ≡ at + length (cond t (log_bytes v rs) [])
