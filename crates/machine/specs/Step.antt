-- One step, with its records. An instruction set is what decides: decide_of for the real one.
use Rattle.std.specs.Prelude.{ℕ, List, [], ◌++◌, length, drop, eqb}
use Rattle.choices.specs.Choice.{cond}
use Rattle.machine.specs.Machine.{Machine}
use Rattle.machine.specs.Effect.{Decision, acts, refuses, drops}
use Rattle.machine.specs.Decide.{decide_of}
use Rattle.machine.specs.Apply.{Outcome, took, kept, lost, settled}
use Rattle.machine.specs.Records.{Record, records_of, log_bytes}
use Rattle.machine.specs.PlaceA.{step_a}
use Rattle.machine.specs.FeeTable.{Fees, checked}

-- what step gives: the outcome, and the call buffer, whose first bytes are the step's records
pub record Stepped : Type 0 where
  pub outcome : Outcome
  pub bytes : ℕ
  pub buffer : List ℕ

-- the records of a decision
abbrev pub records_in : Machine → Decision → List Record
records_in m (acts e) = records_of m e
records_in m (refuses r) = []
records_in m (drops r) = []

abbrev pub stepped_by : List ℕ → List ℕ → Outcome → Stepped
stepped_by b log (took x) = record { outcome = took x; bytes = length log; buffer = log ++ drop (length log) b }
stepped_by b log (kept r) = record { outcome = kept r; bytes = 0; buffer = b }
stepped_by b log (lost r x) = record { outcome = lost r x; bytes = 0; buffer = b }

module _ (decide : Machine → Decision) where
  -- a step behind place A
  unfoldable pub outcome_by : Machine → Outcome
  outcome_by m = settled m (decide m)

  -- with a fee table or without; row_named is the row that it names
  unfoldable pub step_by : Fees → Machine → List ℕ → Stepped
  step_by f m b =
      let a = checked f (step_a m b) in
      cond (eqb a.number 0)
      (stepped_by b (log_bytes m.state.revision (records_in m (decide m))) (outcome_by m))
      (record { outcome = kept a; bytes = 0; buffer = b })

-- of the real instruction set
abbrev pub step_of : Fees → Machine → List ℕ → Stepped
step_of = step_by decide_of
