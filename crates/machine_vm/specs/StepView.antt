-- What the code's answers to step stand for.
use Rattle.std.specs.Prelude.{◌≡◌, Bool, List, ℕ, length}
use Rattle.choices.specs.Choice.{cond}
use Rattle.machine.specs.Machine.{Memory, Machine, machine}
use Rattle.machine.specs.FeeTable.{fee_table, row_for, Fees}
use Rattle.machine.specs.Fee.{row_named}
use Rattle.machine.specs.Step.{step_of}
use Rattle.machine_perform.specs.declared.answer.Stepped.{Stepped}
use Rattle.machine_perform.specs.AnswerView.{Gives}
use Rattle.machine_vm.specs.declared.step.Priced.{Priced}

-- step: the answer, the machine, how many bytes and the call buffer are those of step_of; f is the fee table, where there is one
pub record Steps (f : Fees) (m : Machine) (b : List ℕ) (r : Stepped) (n : Memory) (b2 : List ℕ) : Type 0 where
  pub gives : Gives m (step_of f m b).outcome r.answer (machine r.state m.code n)
  pub bytes : r.bytes ≡ (step_of f m b).bytes
  pub buffer : b2 ≡ (step_of f m b).buffer

-- ---- with a fee table

-- the row for an opcode in a table with these bounds, whatever its fees; 0 where the step was refused
pub record NamesRow (taken : Bool) (l h : List ℕ) (o r : ℕ) : Type 0 where
  pub row : (f : List ℕ) → length l ≡ length f → r ≡ cond taken (row_for (fee_table l h f) o) 0

-- step, and the row that priced it; without a table 0
pub record StepsPriced (f : Fees) (m : Machine) (b : List ℕ) (r : Priced) (n : Memory) (b2 : List ℕ) : Type 0 where
  pub steps : Steps f m b r.stepped n b2
  pub row : r.row ≡ row_named f m (step_of f m b).outcome
