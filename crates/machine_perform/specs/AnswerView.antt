-- What the code's answers to a step stand for.
use Rattle.std.specs.Prelude.{ℕ, ◌≡◌, eqb, Result, Ok, Err}
use Rattle.tip5.specs.declared.sponge.Sponge.{Sponge}
use Rattle.machine.specs.declared.refusal.InstructionError.{InstructionError}
use Rattle.machine_perform.specs.declared.answer.Moved.{Moved}
use Rattle.machine.specs.declared.state.VMState.{VMState}
use Rattle.machine_effects.specs.declared.effect.Effect.{Effect as CodeEffect}
use Rattle.choices.specs.Choice.{cond}
use Rattle.machine.specs.Refusal.{Refusal, refusal_of, plainly}
use Rattle.machine.specs.Machine.{Code, Memory, Machine, machine}
use Rattle.machine.specs.Effect.{Effect}
use Rattle.machine_effects.specs.EffectView.{effect_of}
use Rattle.machine_perform.specs.PerformView.{Fit, Ready}
use Rattle.machine.specs.Apply.{Outcome, took, kept, lost, performed_at, limits_of}

-- what a step answers: it is taken, or turned down
pub data Answered : Type 0 where
  did : Answered
  turned : Refusal → Answered

abbrev pub answer_in : Result (Unit {0}) InstructionError → Answered
answer_in (Ok _) = did
answer_in (Err e) = turned (refusal_of e)

abbrev pub answered_by : Outcome → Answered
answered_by (took x) = did
answered_by (kept r) = turned r
answered_by (lost r x) = turned r

-- the machine that a step from m leaves
abbrev pub left_by : Machine → Outcome → Machine
left_by m (took x) = x
left_by m (kept r) = m
left_by m (lost r x) = x

-- the answer a and the machine x are those of the outcome o of a step from m
pub record Gives (m : Machine) (o : Outcome) (a : Result (Unit {0}) InstructionError) (x : Machine) : Type 0 where
  pub answer : answer_in a ≡ answered_by o
  pub left : x ≡ left_by m o

-- what comes of an effect with this pointer and this sponge behind it
abbrev pub settled_at : Machine → Effect → ℕ → Sponge → Outcome
settled_at m e q s = cond (eqb (limits_of m e) 0) (took (performed_at m e q s)) (kept (plainly (limits_of m e)))

-- what settling relies on: what a sound machine shows, and room for the effect where no limit is met
pub record Settling (s : VMState) (e : CodeEffect) (m : Memory) : Type 0 where
  pub fit : Fit s e m
  pub ready : (c : Code) → limits_of (machine s c m) (effect_of e) ≡ 0 → Ready s e m

-- whatever the program and the inputs are
pub record Settled (s : VMState) (e : CodeEffect) (q : ℕ) (sponge : Sponge) (m : Memory) (r : Moved) (n : Memory) : Type 0 where
  pub is : (c : Code) → Gives (machine s c m) (settled_at (machine s c m) (effect_of e) q sponge) r.answer (machine r.state c n)
