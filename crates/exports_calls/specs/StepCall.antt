-- step over numbers and slices: the machine's step_of, from the registers w, with a fee table or without, f.
use Rattle.std.specs.Prelude.{List, ℕ}
use Rattle.choices.specs.Choice.{cond}
use Rattle.machine.specs.Machine.{Code, Memory, Machine, machine}
use Rattle.machine.specs.FeeTable.{Fees}
use Rattle.machine.specs.Fee.{row_named}
use Rattle.machine.specs.Step.{Stepped, step_of}
use Rattle.machine_perform.specs.AnswerView.{answered_by, left_by}
use Rattle.exports_words.specs.Registers.{state_of}
use Rattle.exports_words.specs.Report.{step_report, answer_words}
use Rattle.exports_words.specs.Calls.{Recorded, recorded, fits_of, misfitted, reported}

-- from a machine m
abbrev pub step_gives : Fees → Machine → Stepped → Recorded
step_gives f m s =
    recorded
    (reported (answer_words f) (step_report (answered_by s.outcome) s.bytes (row_named f m s.outcome)) (left_by m s.outcome).state (left_by m s.outcome).memory)
    s.buffer

-- b is the call buffer
unfoldable pub step_call : Fees → List ℕ → List ℕ → Code → Memory → List ℕ → Recorded
step_call f w a c m b =
    let x = machine (state_of w) c m in
    cond (fits_of w a (answer_words f)) (step_gives f x (step_of f x b)) (recorded (misfitted (answer_words f) w a m) b)
