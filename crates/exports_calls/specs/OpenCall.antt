-- open over numbers and slices: the machine's open_of, of a revision of the log, a program digest and so many RAM cells used, with a
-- fee table or without, f.
use Rattle.std.specs.Prelude.{Bool, false, List, ℕ, length, eqb, Result, Ok, Err}
use Rattle.machine.specs.declared.state.VMState.{VMState}
use Rattle.machine.specs.declared.refusal.InstructionError.{InstructionError}
use Rattle.choices.specs.Choice.{cond}
use Rattle.machine.specs.Refusal.{Refusal}
use Rattle.machine.specs.Machine.{Code, Memory}
use Rattle.machine.specs.Apply.{Outcome, took, kept, lost}
use Rattle.machine.specs.FeeTable.{Fees}
use Rattle.machine.specs.Open.{open_of}
use Rattle.machine_perform.specs.AnswerView.{did, turned}
use Rattle.exports_words.specs.Registers.{registers_of}
use Rattle.exports_words.specs.Report.{answer_of, open_report}
use Rattle.exports_words.specs.Calls.{Called, called, misfitted, reported}

-- the words that the registers w hold do not matter: they are not read
unfoldable pub open_fits_of : List ℕ → List ℕ → List ℕ → Bool
open_fits_of w a digest = cond (eqb (length w) 28) (cond (eqb (length a) 7) (eqb (length digest) 5) false) false

-- refused: the registers keep their words, and nothing lent is changed
abbrev pub unopened : List ℕ → Memory → Refusal → Called
unopened w m r = called r.number w (answer_of 7 (open_report (turned r))) m

-- open drops no word, so that the last does not come about
abbrev pub open_gives : List ℕ → Memory → Outcome → Called
open_gives w m (took x) = reported 7 (open_report did) x.state x.memory
open_gives w m (kept r) = unopened w m r
open_gives w m (lost r x) = unopened w m r

unfoldable pub open_call : Fees → List ℕ → List ℕ → ℕ → List ℕ → ℕ → Code → Memory → Called
open_call f w a v digest n c m = cond (open_fits_of w a digest) (open_gives w m (open_of f v digest c m n)) (misfitted 7 w a m)

-- the registers behind an opening
abbrev pub registers_behind : Result VMState InstructionError → List ℕ → List ℕ
registers_behind (Ok s) w = registers_of s
registers_behind (Err e) w = w
