-- What the calls over numbers and slices give, and which slices fit. w are the registers, a is the answer.
use Rattle.std.specs.Prelude.{ℕ, Bool, false, List, length, eqb, Option, Some, None}
use Rattle.machine.specs.declared.state.VMState.{VMState}
use Rattle.choices.specs.Choice.{cond}
use Rattle.machine.specs.Machine.{Memory}
use Rattle.exports_words.specs.declared.report.Report.{Report}
use Rattle.exports_words.specs.Registers.{registers_of, state_of, readable_of}
use Rattle.exports_words.specs.Report.{misfit, answer_of, said_of}

-- the number of the interface: it is raised where a call gets other parameters, or a word another meaning
abbrev pub interface_version : ℕ
interface_version = 1

-- the number that a call gives, and its slices behind it
pub record Called : Type 0 where
  pub number : ℕ
  pub registers : List ℕ
  pub answer : List ℕ
  pub memory : Memory

abbrev pub called : ℕ → List ℕ → List ℕ → Memory → Called
called n w a m = record { number = n; registers = w; answer = a; memory = m }

-- the same of a call that writes records, and the bytes lent for them
pub record Recorded : Type 0 where
  pub call : Called
  pub buffer : List ℕ

abbrev pub recorded : Called → List ℕ → Recorded
recorded c b = record { call = c; buffer = b }

-- and the words lent for rows
pub record Tabled : Type 0 where
  pub call : Recorded
  pub table : List ℕ

abbrev pub tabled : Recorded → List ℕ → Tabled
tabled c t = record { call = c; table = t }

-- registers that can be read, and an answer, or a slice for words of the machine, of n words
unfoldable pub fits_of : List ℕ → List ℕ → ℕ → Bool
fits_of w a n = cond (readable_of w) (eqb (length a) n) false

-- the state that they stand for
abbrev pub fitting_of : List ℕ → List ℕ → ℕ → Option VMState
fitting_of w a n = cond (fits_of w a n) (Some (state_of w)) None

-- they do not fit: number 1, and nothing lent is changed; k is how many words the answer is to have
abbrev pub misfitted : ℕ → List ℕ → List ℕ → Memory → Called
misfitted k w a m = called 1 w (said_of k a misfit) m

-- they fit: what a report says, and the registers and the memory then
abbrev pub reported : ℕ → Report → VMState → Memory → Called
reported k r s m = called r.number (registers_of s) (answer_of k r) m
