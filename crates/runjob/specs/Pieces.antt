-- What runjob prints, piece by piece.
use Rattle.std.specs.Prelude.{Bool, true, false, List, [], ◌++◌, ℕ, ◌+◌, ◌-◌, take, Option, None, Some, Result, Ok, Err}
use Rattle.machine.specs.declared.state.VMState.{VMState}
use Rattle.choices.specs.Choice.{cond}
use Rattle.machine.specs.Machine.{Code, Memory, Machine, machine, code}
use Rattle.machine.specs.Decide.{decide_of}
use Rattle.machine.specs.Path.{Ending, halted, spent, full, refused, count, unlogged, path_by}
use Rattle.machine_steps.specs.declared.answer.Ran.{Ran}
use Rattle.job.specs.LogLines.{log_lines}
use Rattle.job.specs.Printed.{out_lines, end_line, not_opened, path_lines}
use Rattle.runjob.specs.declared.pending.Pending.{Pending}
use Rattle.runjob.specs.declared.refusals.NotOpened.{NotOpened}
use Rattle.runjob.specs.Refusals.{number_of}

-- ---- what is left to print

-- at most `budget` steps from x, before which `done` were taken: job's run_lines, where none were taken
unfoldable pub lines_from : ℕ → ℕ → Machine → List ℕ
lines_from done budget x = let p = path_by decide_of unlogged budget x in path_lines (done + count p) x p

-- a job's program and inputs stand at the start of what is lent
abbrev pub code_for : Pending → Code → Code
code_for j c = code (take j.slots c.opcodes) (take j.slots c.arguments) (take j.publics c.public) (take j.secrets c.secret) (take j.digests c.digests)

abbrev pub machine_for : Pending → Code → Memory → Machine
machine_for j c m = machine j.state (code_for j c) m

-- nothing more, or the lines of the steps that are left
unfoldable pub left_lines : Option Pending → Code → Memory → List ℕ
left_lines None c m = []
left_lines (Some j) c m = lines_from j.done j.budget (machine_for j c m)

-- of a job that was opened, or the line of the refusal
abbrev pub start_lines : Result Pending NotOpened → Code → Memory → List ℕ
start_lines (Ok j) c m = left_lines (Some j) c m
start_lines (Err e) c m = not_opened (number_of e)

-- ---- a piece

abbrev pub is_full : Ending → Bool
is_full halted = false
is_full spent = false
is_full (full w) = true
is_full (refused r) = false

-- a log's stack lines and, where the log was not full, the lines of the output and the end line; n is how many steps that line says
unfoldable pub piece_lines : List ℕ → List ℕ → Ending → ℕ → VMState → List ℕ
piece_lines log output e n s = log_lines log ++ cond (is_full e) [] (out_lines (take s.outputs output) ++ end_line e n s.pointer s.depth)

-- the job j after the steps in t
abbrev pub moved_on : Pending → Ran → Pending
moved_on j t =
    record {
      slots = j.slots;
      publics = j.publics;
      secrets = j.secrets;
      digests = j.digests;
      done = j.done + t.count;
      budget = j.budget - t.count;
      state = t.state;
    }
