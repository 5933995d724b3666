-- Steps behind place A, with or without their records in a lent log and their rows in a lent table: what the code of run, trace_execution and trace_rows
-- share.
use Rattle.std.specs.Prelude.{ℕ, ◌+◌, ◌≤◌, ◌<◌, ◌≡◌, Bool, true, false, List, [], length, get_or, Result, Ok, Err, IfOk, Option, Some, None, IfSome}
use Rattle.machine.specs.declared.refusal.InstructionError.{InstructionError}
use Rattle.machine.specs.declared.state.VMState.{VMState}
use Rattle.choices.specs.Choice.{cond}
use Rattle.machine.specs.Machine.{Memory, Machine, machine}
use Rattle.machine.specs.Decide.{decide_of}
use Rattle.machine.specs.Apply.{Outcome, took, kept, lost}
use Rattle.machine.specs.Records.{log_bytes}
use Rattle.machine.specs.Step.{outcome_by}
use Rattle.machine.specs.Fee.{fee_from}
use Rattle.machine.specs.Path.{Left, unlent, left_count, lacks, Space, space, step_log, path_by, log_from}
use Rattle.machine.specs.Lengths.{longest, most_bytes, row_words}
use Rattle.machine.specs.ProcessorRow.{row_of, rows_from}
use Rattle.machine.specs.Sound.{Sound}
use Rattle.machine_log.specs.Logged.{logged}
use Rattle.machine_perform.specs.AnswerView.{Gives}
use Rattle.machine_steps.specs.declared.answer.Ending.{Ending as EndingIn}
use Rattle.machine_steps.specs.declared.answer.Ending.TheVariants.{Full, TableFull}
use Rattle.machine_steps.specs.declared.answer.Ran.{Ran}
use Rattle.machine_steps.specs.RanView.{RanOn}

-- t says whether records are asked for, and u whether rows are

-- what a step with opcode o costs, by the prices of the opcodes, where there are any
abbrev pub price_by : Option (List ℕ) → ℕ → ℕ
price_by None o = 0
price_by (Some prices) o = get_or prices o 0

-- where it is not so, neither rows nor prices are asked for
pub record AsksBeside (u : Bool) (ps : Option (List ℕ)) (r : Bool) : Type 0 where
  pub rows : r ≡ false → u ≡ false
  pub prices : r ≡ false → ps ≡ None

-- a slot whose opcode has one
pub record PricedAt (prices : Option (List ℕ)) (opcodes : List ℕ) (pointer : ℕ) : Type 0 where
  pub there : IfSome prices (λ s. (pointer < length opcodes) × (get_or opcodes pointer 0 < length s))

-- one for each opcode, of 32 bits
pub record Pricing (prices : Option (List ℕ)) : Type 0 where
  pub all : IfSome prices (λ s. 128 ≤ length s)
  pub narrow : (o : ℕ) → price_by prices o ≤ 4294967295

abbrev pub left_of : Bool → ℕ → Left
left_of t n = cond t (left_count n) unlent

abbrev pub space_of : Bool → Bool → ℕ → ℕ → Space
space_of t u room words = space (left_of t room) (left_of u words)

-- whether a log or a table with so much left is too short for a step that may write so many bytes, and which of both
abbrev pub short_of : Bool → ℕ → ℕ → Bool → ℕ → Bool
short_of t room most u words = cond (lacks (left_of t room) most) true (lacks (left_of u words) row_words)

abbrev pub end_full : Bool → ℕ → ℕ → EndingIn
end_full t room most = cond (lacks (left_of t room) most) Full TableFull

-- what a step from m writes where it is taken
abbrev pub own_log : Bool → Machine → List ℕ
own_log t m = cond t (step_log decide_of m) []

-- what the steps from m through the machines write
abbrev pub log_of : Bool → Machine → List Machine → List ℕ
log_of t m ms = cond t (log_bytes m.state.revision (log_from decide_of m ms)) []

-- the rows of both
abbrev pub own_row : Bool → Machine → List ℕ
own_row u m = cond u (row_of m) []

abbrev pub rows_of : Bool → Machine → List Machine → List ℕ
rows_of u m ms = cond u (rows_from m ms) []

-- ---- one step behind place `at` of the log

-- a sound machine that is not halted, and room for a step's records where they are asked for
pub record StandingAt (t : Bool) (m : Machine) (b : List ℕ) (at : ℕ) : Type 0 where
  pub sound : Sound m
  pub on : m.state.halted ≡ false
  pub within : at ≤ length b
  pub few : length b ≤ longest
  pub room : t ≡ true → at + most_bytes m.state.revision ≤ length b

-- what a step that is taken writes, and one that is not
abbrev pub log_in : List ℕ → Outcome → List ℕ
log_in own (took x) = own
log_in own (kept r) = []
log_in own (lost r x) = []

-- a step's answer, without the place behind its records
abbrev pub answer_of : Result ℕ InstructionError → Result (Unit {0}) InstructionError
answer_of (Ok next) = Ok tt
answer_of (Err e) = Err e

-- answer and machine are those of a step from m, and its records stand from place `at` on
pub record SteppedAt (t : Bool) (m : Machine) (b : List ℕ) (at : ℕ) (r : Result ℕ InstructionError) (s : VMState) (n : Memory) (b2 : List ℕ) : Type 0 where
  pub gives : Gives m (outcome_by decide_of m) (answer_of r) (machine s m.code n)
  pub place : IfOk r (λ next. next ≡ at + length (own_log t m))
  pub buffer : b2 ≡ logged b at (log_in (own_log t m) (outcome_by decide_of m))

-- ---- all of them

-- a sound machine, a log and a table that are not too long, and prices, where there are any
pub record StandingIn (m : Machine) (b w : List ℕ) (prices : Option (List ℕ)) : Type 0 where
  pub sound : Sound m
  pub few : length b ≤ longest
  pub few_rows : length w ≤ longest
  pub pricing : Pricing prices

abbrev pub StepsOn : Bool → Bool → ℕ → Machine → List ℕ → List ℕ → Option (List ℕ) → Ran → Memory → List ℕ → List ℕ → Type 0
StepsOn t u budget m b w prices r n b2 w2 =
    let p = path_by decide_of (space_of t u (length b) (length w)) budget m in
    RanOn p (fee_from (price_by prices) m p.machines) (log_of t m p.machines) (rows_of u m p.machines) m.code b w r n b2 w2
