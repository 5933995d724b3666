-- What the code of a quick step relies on and promises: one that changes the op stack, the pointer and the clock alone.
use Rattle.std.specs.Prelude.{ℕ, ◌+◌, ◌-◌, ◌≤◌, ◌≡◌, Bool, true, false, List, [], length, Result, Ok, Option, Some, None}
use Rattle.machine.specs.declared.state.VMState.{VMState}
use Rattle.machine_effects.specs.declared.effect.Effect.{Effect as CodeEffect}
use Rattle.machine_effects.specs.declared.effect.Refused.{Refused}
use Rattle.machine_effects.specs.declared.effect.JumpChange.TheVariants.{Stays}
use Rattle.machine_effects.specs.declared.effect.U32Calls.TheVariants.{Zero}
use Rattle.machine_effects.specs.EffectView.{next_of}
use Rattle.machine_isa.specs.FewWords.{words_of}
use Rattle.machine.specs.Machine.{Memory, memory, Machine, machine}
use Rattle.machine.specs.PlaceA.{longest}
use Rattle.machine.specs.Decide.{decide_of}
use Rattle.machine.specs.Apply.{took, applied_stack}
use Rattle.machine.specs.Records.{stack_records}
use Rattle.machine.specs.Step.{records_in, outcome_by}
use Rattle.machine.specs.Sound.{Sound}
use Rattle.machine_quick.specs.declared.quick.QuickStep.{QuickStep}
use Rattle.machine_quick.specs.declared.quick.Beside.{Beside}
use Rattle.machine_decide.specs.declared.handed.Handed.{Handed}
use Rattle.machine_decide.specs.DecideView.{Acted, plain_alike}
use Rattle.machine_step.specs.AdvanceView.{goes_from}

-- ---- deciding: as DecideView has it, where there is an effect

pub record ActedQuick (h : Handed) (r : Result CodeEffect Refused) : Type 0 where
  pub is : (e : CodeEffect) → r ≡ Ok e → Acted h r

-- ---- changing

-- an effect that changes the op stack and the pointer alone
pub record Still (e : CodeEffect) : Type 0 where
  pub halts : e.halts ≡ false
  pub jump : e.jump ≡ Stays
  pub publics : e.publics ≡ 0
  pub secrets : e.secrets ≡ 0
  pub digests : e.digests ≡ 0
  pub output : e.output.count ≡ 0
  pub u32s : e.u32s ≡ Zero
  pub accesses : e.accesses.count ≡ 0

pub record Quiet (e : CodeEffect) (r : Bool) : Type 0 where
  pub is : r ≡ true → Still e

pub record Changing (s : VMState) (e : CodeEffect) (w : List ℕ) : Type 0 where
  pub pops : e.pops ≤ s.depth
  pub grows : e.words.count ≤ e.pops + 10
  pub depth : s.depth ≤ length w
  pub few : length w ≤ longest
  pub pointer : s.pointer ≤ longest

-- the effect is still, there is room for it, and stack, depth and pointer are those after it
pub record Shift (s : VMState) (e : CodeEffect) (op : ℕ) (w : List ℕ) (r : QuickStep) (w2 : List ℕ) : Type 0 where
  pub still : Still e
  pub clock : s.clock ≤ 4294967294
  pub deeper : r.depth ≤ length w
  pub depth : r.depth ≡ s.depth - e.pops + e.words.count
  pub pointer : r.pointer ≡ goes_from s.pointer op (next_of e.next)
  pub stack : w2 ≡ applied_stack w s.depth e.pops (words_of e.words)

-- where it is taken; else nothing is changed
abbrev pub Changed : VMState → CodeEffect → ℕ → List ℕ → Option QuickStep → List ℕ → Type 0
Changed s e op w (Some r) w2 = Shift s e op w r w2
Changed s e op w None w2 = w2 ≡ w

-- ---- a quick step

-- memory as it is lent: the op stack, and beside it jump stack and RAM; no output
abbrev pub lent_beside : List ℕ → Beside → Memory
lent_beside s b = memory s b.origins.now b.destinations.now b.addresses.now b.values.now []

-- the registers after it
abbrev pub onward_as : VMState → QuickStep → Bool → VMState
onward_as s r halts =
    record {
      clock = s.clock + 1;
      pointer = r.pointer;
      depth = r.depth;
      jumps = s.jumps;
      cells = s.cells;
      outputs = s.outputs;
      publics = s.publics;
      secrets = s.secrets;
      digests = s.digests;
      sponge = s.sponge;
      halted = halts;
      revision = s.revision;
    }

abbrev pub onward_to : VMState → QuickStep → VMState
onward_to s r = onward_as s r s.halted

-- a sound machine that is not halted; its digests and output, which a quick step does not look at, may be anything
pub record Walking (m : Machine) : Type 0 where
  pub digests : List ℕ
  pub output : List ℕ
  pub sound : Sound (plain_alike m digests output)
  pub on : m.state.halted ≡ false

-- it is the step of m, which changes the op stack alone of memory, and the op stack's records are all that it has
pub record StepsTo (m : Machine) (r : QuickStep) (n : Memory) : Type 0 where
  pub rest : n ≡ memory n.op_stack m.memory.origins m.memory.destinations m.memory.addresses m.memory.values m.memory.output
  pub outcome : outcome_by decide_of m ≡ took (machine (onward_to m.state r) m.code n)
  pub records : records_in m (decide_of m) ≡ stack_records m.state.clock n.op_stack n.op_stack m.state.depth r.depth

-- memory of which only the op stack is another
abbrev pub with_stack : Memory → List ℕ → Memory
with_stack m s = memory s m.origins m.destinations m.addresses m.values m.output

-- where it is taken, it is the step of m and of all that are alike and sound; else nothing is changed
pub record Taken (m : Machine) (r : QuickStep) (n : Memory) : Type 0 where
  pub rest : n ≡ with_stack m.memory n.op_stack
  pub steps : (digests output : List ℕ) → Sound (plain_alike m digests output) →
      StepsTo (plain_alike m digests output) r (with_stack (plain_alike m digests output).memory n.op_stack)

abbrev pub Quicked : Machine → Option QuickStep → Memory → Type 0
Quicked m (Some r) n = Taken m r n
Quicked m None n = n ≡ m.memory
