-- What the code of a step behind place A relies on and promises.
use Rattle.std.specs.Prelude.{ℕ, ◌+◌, ◌≤◌, ◌<◌, ◌≡◌, Bool, true, false, List, [], length}
use Rattle.tip5.specs.declared.sponge.Sponge.{Sponge}
use Rattle.machine.specs.declared.state.VMState.{VMState}
use Rattle.machine_effects.specs.declared.effect.Effect.{Effect as CodeEffect}
use Rattle.machine_effects.specs.declared.effect.Refused.{Refused}
use Rattle.machine_effects.specs.declared.effect.Refused.TheVariants.{Kept, Dropped}
use Rattle.machine_log.specs.declared.calls.Besides.{Besides}
use Rattle.choices.specs.Choice.{cond}
use Rattle.machine.specs.Lengths.{most_bytes}
use Rattle.machine.specs.Refusal.{refusal_of}
use Rattle.machine.specs.Instruction.{decode, size_of}
use Rattle.machine.specs.Machine.{Code, Memory, Machine, machine}
use Rattle.machine.specs.Effect.{Next, onward, to, SpongeChange, Decision, acts}
use Rattle.machine_effects.specs.EffectView.{next_of, calls_of, effect_of}
use Rattle.machine_hashing.specs.HashedView.{with_sponge}
use Rattle.machine_log.specs.Logged.{call_bytes}
use Rattle.machine_log.specs.Beside.{with_besides, besides_bytes}
use Rattle.machine.specs.Decide.{opcode_of, argument_of, decide_of}
use Rattle.machine.specs.Apply.{Outcome, kept, lost, dropped, settled, limits_of, pointer_after, performed, performed_at}
use Rattle.machine.specs.Records.{log_bytes}
use Rattle.machine.specs.Step.{Stepped as StepGives, records_in, stepped_by}
use Rattle.machine.specs.Sound.{Sound}
use Rattle.machine_perform.specs.declared.answer.Stepped.{Stepped}
use Rattle.machine_decide.specs.DecideView.{act_in, hashes}
use Rattle.machine_perform.specs.AnswerView.{Gives}

-- from an instruction at a pointer on, as pointer_after has it of a machine
abbrev pub goes_from : ℕ → ℕ → Next → ℕ
goes_from q op onward = q + size_of op
goes_from q op (to k) = k

-- what comes of a refused instruction
abbrev pub refused_by : Machine → Refused → Outcome
refused_by m (Kept r) = kept (refusal_of r)
refused_by m (Dropped r) = lost (refusal_of r) (dropped m)

-- whatever the program and the inputs are
pub record RefusedBy (s : VMState) (m : Memory) (x : Refused) (r : Stepped) (n : Memory) : Type 0 where
  pub is : (c : Code) → Gives (machine s c m) (refused_by (machine s c m) x) r.answer (machine r.state c n)
  pub bytes : r.bytes ≡ 0

-- ---- a step

-- a sound machine, and room for a step's records where they are asked for
pub record Standing (t : Bool) (m : Machine) (b : List ℕ) : Type 0 where
  pub sound : Sound m
  pub room : t ≡ true → most_bytes m.state.revision ≤ length b

-- it stands on a slot that place B lets pass, whose instruction hashes or does not
pub record StandingOn (hashing t : Bool) (m : Machine) (b : List ℕ) : Type 0 where
  pub standing : Standing t m b
  pub inside : m.state.pointer < length m.code.opcodes
  pub decides : decide_of m ≡ act_in (decode (opcode_of m)) (argument_of m) m
  pub way : hashes (opcode_of m) ≡ hashing

-- an effect, with this sponge behind it and this recorded besides its calls, is what the machine decides
pub record Acting (t : Bool) (m : Machine) (e : CodeEffect) (s : Sponge) (x : Besides) (b : List ℕ) : Type 0 where
  pub standing : Standing t m b
  pub inside : m.state.pointer < length m.code.opcodes
  pub change : SpongeChange
  pub decides : decide_of m ≡ acts (with_sponge (effect_of e) change (with_besides x (calls_of e)))
  pub limits : limits_of m (with_sponge (effect_of e) change (with_besides x (calls_of e))) ≡ limits_of m (effect_of e)
  pub performs : performed m (with_sponge (effect_of e) change (with_besides x (calls_of e))) ≡ performed_at m (effect_of e) (pointer_after m (next_of e.next)) s

-- what a step with this decision gives, with its records or without
abbrev pub advanced_by : Bool → Machine → List ℕ → Decision → StepGives
advanced_by t m b d = stepped_by b (cond t (log_bytes m.state.revision (records_in m d)) []) (settled m d)

-- answer, machine, bytes and buffer are those of a step from m
pub record Advanced (t : Bool) (m : Machine) (b : List ℕ) (r : Stepped) (n : Memory) (b2 : List ℕ) : Type 0 where
  pub gives : Gives m (advanced_by t m b (decide_of m)).outcome r.answer (machine r.state m.code n)
  pub bytes : r.bytes ≡ (advanced_by t m b (decide_of m)).bytes
  pub buffer : b2 ≡ (advanced_by t m b (decide_of m)).buffer
