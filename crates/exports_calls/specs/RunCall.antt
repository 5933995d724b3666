-- run, trace_execution and trace_rows over numbers and slices: the machine's run_of, trace_execution_of and trace_rows_of, from the registers w, with a fee
-- table or without, f.
use Rattle.std.specs.Prelude.{List, ℕ, length}
use Rattle.choices.specs.Choice.{cond}
use Rattle.machine_log.specs.Logged.{logged}
use Rattle.machine.specs.Machine.{Code, Memory, Machine, machine}
use Rattle.machine.specs.FeeTable.{Fees}
use Rattle.machine.specs.Fee.{fee_of}
use Rattle.machine.specs.Path.{Path, count}
use Rattle.machine.specs.Run.{run_of, trace_execution_of, trace_rows_of}
use Rattle.machine.specs.ProcessorRow.{rows_from}
use Rattle.machine_vm.specs.RunView.{path_log}
use Rattle.exports_words.specs.Registers.{state_of}
use Rattle.exports_words.specs.Report.{run_report, answer_words}
use Rattle.exports_words.specs.Calls.{Called, Recorded, recorded, Tabled, tabled, fits_of, misfitted, reported}

-- what a path from x says, with so many bytes of records
abbrev pub run_gives : Fees → Machine → Path → ℕ → Called
run_gives f x p n = reported (answer_words f) (run_report p.ending (count p) n (fee_of f x p.machines)) p.left.state p.left.memory

unfoldable pub run_call : Fees → ℕ → List ℕ → List ℕ → Code → Memory → Called
run_call f budget w a c m =
    let x = machine (state_of w) c m in
    cond (fits_of w a (answer_words f)) (run_gives f x (run_of f budget x) 0) (misfitted (answer_words f) w a m)

-- the log of the steps from x is written from the start of b on
abbrev pub trace_gives : Fees → List ℕ → Machine → Path → Recorded
trace_gives f b x p = recorded (run_gives f x p (length (path_log x p))) (logged b 0 (path_log x p))

unfoldable pub trace_call : Fees → ℕ → List ℕ → List ℕ → Code → Memory → List ℕ → Recorded
trace_call f budget w a c m b =
    let x = machine (state_of w) c m in
    cond (fits_of w a (answer_words f)) (trace_gives f b x (trace_execution_of f budget x b)) (recorded (misfitted (answer_words f) w a m) b)

-- and their rows from the start of t on
abbrev pub rows_gives : Fees → List ℕ → List ℕ → Machine → Path → Tabled
rows_gives f b t x p = tabled (trace_gives f b x p) (logged t 0 (rows_from x p.machines))

unfoldable pub rows_call : Fees → ℕ → List ℕ → List ℕ → Code → Memory → List ℕ → List ℕ → Tabled
rows_call f budget w a c m b t =
    let x = machine (state_of w) c m in
    cond (fits_of w a (answer_words f)) (rows_gives f b t x (trace_rows_of f budget x b t)) (tabled (recorded (misfitted (answer_words f) w a m) b) t)
