-- step over a register record r: the machine's step_of, from the state that it stands for.
use Rattle.std.specs.Prelude.{List, ℕ, length, eqb}
use Rattle.machine.specs.declared.state.VMState.{VMState}
use Rattle.choices.specs.Choice.{cond}
use Rattle.machine.specs.Machine.{Code, Memory, Machine, machine}
use Rattle.machine.specs.FeeTable.{unpriced}
use Rattle.machine.specs.Step.{Stepped, step_of}
use Rattle.machine_perform.specs.AnswerView.{answered_by, left_by}
use Rattle.exports_words.specs.declared.report.Report.{Report}
use Rattle.exports_calls.specs.declared.thin.Registers.{Registers}
use Rattle.exports_words.specs.Report.{answer_of, step_report}

-- ---- the registers and the state

abbrev pub state_in : Registers → VMState
state_in r =
    record {
      clock = r.clock;
      pointer = r.pointer;
      depth = r.depth;
      jumps = r.jumps;
      cells = r.cells;
      outputs = r.outputs;
      publics = r.publics;
      secrets = r.secrets;
      digests = r.digests;
      sponge = record { words = r.words; set = r.set };
      halted = r.halted;
      revision = r.revision;
    }

-- the state's registers in the place of the record r, whose reserved fields stay
abbrev pub registers_in : Registers → VMState → Registers
registers_in r s =
    record {
      clock = s.clock;
      reserved = r.reserved;
      pointer = s.pointer;
      depth = s.depth;
      jumps = s.jumps;
      cells = s.cells;
      outputs = s.outputs;
      publics = s.publics;
      secrets = s.secrets;
      digests = s.digests;
      halted = s.halted;
      set = s.sponge.set;
      reserved2 = r.reserved2;
      reserved4 = r.reserved4;
      words = s.sponge.words;
      revision = s.revision;
    }

-- ---- the call

-- the number that it gives, the registers behind it, and its slices
pub record Thin : Type 0 where
  pub number : ℕ
  pub registers : Registers
  pub answer : List ℕ
  pub memory : Memory
  pub buffer : List ℕ

abbrev pub thinly : ℕ → Registers → List ℕ → Memory → List ℕ → Thin
thinly n r a m b = record { number = n; registers = r; answer = a; memory = m; buffer = b }

-- what a report says, and the machine and the call buffer then
abbrev pub told : Registers → Report → Machine → List ℕ → Thin
told r p m b = thinly p.number (registers_in r m.state) (answer_of 7 p) m.memory b

-- from a machine m
abbrev pub thin_gives : Registers → Machine → Stepped → Thin
thin_gives r m s = told r (step_report (answered_by s.outcome) s.bytes 0) (left_by m s.outcome) s.buffer

-- a is the answer and b the call buffer. An answer that has not seven words gives number 1, and nothing is changed
unfoldable pub thin_call : Registers → List ℕ → Code → Memory → List ℕ → Thin
thin_call r a c m b = cond (eqb (length a) 7) (thin_gives r (machine (state_in r) c m) (step_of unpriced (machine (state_in r) c m) b)) (thinly 1 r a m b)
