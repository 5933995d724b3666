-- A job: a list of step, run, trace_execution and trace_rows calls on an opened machine, the machines after each of its steps, and its log.
use Rattle.std.specs.Prelude.{ℕ, List, [], ◌∷◌, ◌++◌, get_or}
use Rattle.choices.specs.Choice.{cond}
use Rattle.machine.specs.Machine.{Machine}
use Rattle.machine.specs.Effect.{Decision}
use Rattle.machine.specs.Records.{Record}
use Rattle.machine.specs.FeeTable.{Fees}
use Rattle.machine.specs.Step.{step_by}
use Rattle.machine.specs.Path.{spent, Path, stays, onward, log_from}
use Rattle.machine.specs.Run.{run_by, trace_by, rows_by}

-- a call: step with a call buffer, run with a budget, trace_execution with a budget and a log, trace_rows with a table too; each with a fee table or
-- without
pub data Ask : Type 0 where
  step : Fees → List ℕ → Ask
  run : Fees → ℕ → Ask
  trace : Fees → ℕ → List ℕ → Ask
  rows : Fees → ℕ → List ℕ → List ℕ → Ask

module _ (decide : Machine → Decision) where
  -- the path of a call: that of step is one step, or none where it is refused
  unfoldable pub ask_of : Machine → Ask → Path
  ask_of m (step f b) = onward m (stays spent) (step_by decide f m b).outcome
  ask_of m (run f n) = run_by decide f n m
  ask_of m (trace f n b) = trace_by decide f n m b
  ask_of m (rows f n b t) = rows_by decide f n m b t

  -- the machines after each of the job's steps: each call is handed what the last left, refused ones included, up to the
  -- first skiz refused with its word dropped
  unfoldable pub job_of : Machine → List Ask → List Machine
  job_of m [] = []
  job_of m (a ∷ more) = (ask_of m a).machines ++ cond (ask_of m a).dropped [] (job_of (ask_of m a).left more)

  -- the records of all its steps, whichever call took them, as step writes them (job-step and job-log in proofs/Job.antt)
  abbrev pub records_of_job : Machine → List Ask → List Record
  records_of_job m asks = log_from decide m (job_of m asks)

  -- the machine after j of the job's steps
  abbrev pub machine_at : Machine → List Ask → ℕ → Machine
  machine_at m asks j = get_or (m ∷ job_of m asks) j m
