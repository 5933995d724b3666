-- The calls that take several steps: place A once, then a path of steps up to a budget. run records nothing. trace_execution, the Rust's name for running
-- with recording, writes the records of its steps, log_from over its path, into a lent log, each behind the last one. trace_rows also writes the row of
-- each step, rows_from over its path, into a lent table. With a fee table they also give what their steps cost, fee_of over the path.
use Rattle.std.specs.Prelude.{ℕ, List, length, eqb}
use Rattle.choices.specs.Choice.{cond, first_of, above_of}
use Rattle.machine.specs.Lengths.{longest}
use Rattle.machine.specs.Machine.{Machine}
use Rattle.machine.specs.Effect.{Decision}
use Rattle.machine.specs.Decide.{decide_of}
use Rattle.machine.specs.PlaceA.{machine_a}
use Rattle.machine.specs.FeeTable.{Fees, checked}
use Rattle.machine.specs.Path.{Left, unlent, left_count, Space, Path, stays, refused, unlogged, bytes, tabled, path_by}

-- 1: a slice that is lent and too long; a short one is full at once
abbrev pub long1 : Left → ℕ
long1 unlent = 0
long1 (left_count n) = above_of n longest 1

-- place A of a machine, and of what is lent beside it
unfoldable pub call_a : Space → Machine → ℕ
call_a s m = first_of (long1 s.table) (first_of (long1 s.log) (machine_a m))

module _ (decide : Machine → Decision) where
  unfoldable pub call_by : Fees → Space → ℕ → Machine → Path
  call_by f s budget m = let a = checked f (call_a s m) in cond (eqb a.number 0) (path_by decide s budget m) (stays (refused a) m)

  abbrev pub run_by : Fees → ℕ → Machine → Path
  run_by f budget m = call_by f unlogged budget m

  abbrev pub trace_by : Fees → ℕ → Machine → List ℕ → Path
  trace_by f budget m b = call_by f (bytes (length b)) budget m

  abbrev pub rows_by : Fees → ℕ → Machine → List ℕ → List ℕ → Path
  rows_by f budget m b t = call_by f (tabled (length b) (length t)) budget m

-- ---- the real instruction set

abbrev pub run_of : Fees → ℕ → Machine → Path
run_of = run_by decide_of

abbrev pub trace_execution_of : Fees → ℕ → Machine → List ℕ → Path
trace_execution_of = trace_by decide_of

abbrev pub trace_rows_of : Fees → ℕ → Machine → List ℕ → List ℕ → Path
trace_rows_of = rows_by decide_of
