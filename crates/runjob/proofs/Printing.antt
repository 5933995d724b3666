-- What start and piece say together: the pieces of a job, one behind the other, are what runjob prints for the file, however many full logs
-- the run is cut into. Assumes nothing.
use Rattle.std.proofs.Common.{◌≡◌, ap, sym, ◌∙◌, List, ◌++◌, ℕ, Option, Result, Ok, Err}
use Rattle.machine.specs.Machine.{Code, Memory}
use Rattle.job.specs.Printed.{printed_of}
use Rattle.runjob.specs.declared.pending.Pending.{Pending}
use Rattle.runjob.specs.declared.refusals.NotOpened.{NotOpened}
use Rattle.runjob.specs.Pieces.{left_lines}
use Rattle.runjob.specs.PieceView.{Prints, none, next, PrintsJob}
use Rattle.runjob.specs.StartView.{Starts}
use Rattle.runjob.proofs.PieceLaws.{left-none}

pub prints-lines : {c : Code} {r : Option Pending} {m : Memory} {t : List ℕ} → Prints c r m t → left_lines r c m ≡ t
prints-lines {c} {r} {m} none = left-none c m
prints-lines (next {text = text} w k) = w.is ∙ ap (λ (u : List ℕ). text ++ u) (prints-lines k)

pub pieces_printed : {file t : List ℕ} (r : Result Pending NotOpened) {c : Code} {m : Memory} → Starts file r c m → PrintsJob c r m t → printed_of file ≡ t
pieces_printed (Ok j) s k = s.is ∙ prints-lines k
pieces_printed (Err e) s k = s.is ∙ sym k
