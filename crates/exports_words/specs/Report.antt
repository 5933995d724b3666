-- What a call answers, as a slice of seven words, and with a fee table of eight: src/lib.rt of exports names them.
use Rattle.std.specs.Prelude.{ℕ, List, [], ◌∷◌, length, take, eqb, Result, Ok, Err}
use Rattle.choices.specs.Choice.{cond}
use Rattle.machine.specs.Refusal.{Refusal, plainly, refusal_of}
use Rattle.machine.specs.declared.refusal.InstructionError.{InstructionError}
use Rattle.machine.specs.FeeTable.{Fees, unpriced, priced}
use Rattle.machine.specs.Path.{the_log, the_table, Ending, halted, spent, full, refused}
use Rattle.machine_perform.specs.AnswerView.{Answered, did, turned}
use Rattle.exports_words.specs.declared.report.Report.{Report}

-- price: by a fee table what the steps cost, or the row that priced a step; 0 without
abbrev pub report : ℕ → Refusal → ℕ → ℕ → ℕ → Report
report e r steps bytes price =
    record { ending = e; number = r.number; word0 = r.word0; word1 = r.word1; word2 = r.word2; steps = steps; bytes = bytes; price = price }

-- not refused: the number is 0, and so are the words
abbrev pub unrefused : Refusal
unrefused = plainly 0

-- a slice of another length, or a word in the registers that no register can hold
abbrev pub misfit : Report
misfit = report 3 (plainly 1) 0 0 0

-- a step is taken, or refused; the row that priced it
abbrev pub step_report : Answered → ℕ → ℕ → Report
step_report did n row = report 0 unrefused 1 n row
step_report (turned r) n row = report 3 r 0 n row

-- what an opening answers
abbrev pub answered_in : {A : Type 0} → Result A InstructionError → Answered
answered_in (Ok _) = did
answered_in (Err e) = turned (refusal_of e)

abbrev pub open_report : Answered → Report
open_report did = report 0 unrefused 0 0 0
open_report (turned r) = report 3 r 0 0 0

-- how a call of several steps ended, after so many of them, with n bytes of records, and what they cost
abbrev pub run_report : Ending → ℕ → ℕ → ℕ → Report
run_report halted steps n fee = report 0 unrefused steps n fee
run_report spent steps n fee = report 1 unrefused steps n fee
run_report (full the_log) steps n fee = report 2 unrefused steps n fee
run_report (full the_table) steps n fee = report 4 unrefused steps n fee
run_report (refused r) steps n fee = report 3 r steps n fee

-- how many words an answer has
abbrev pub answer_words : Fees → ℕ
answer_words unpriced = 7
answer_words (priced t) = 8

-- the first k words, 7 or 8
unfoldable pub answer_of : ℕ → Report → List ℕ
answer_of k r = take k (r.ending ∷ r.number ∷ r.word0 ∷ r.word1 ∷ r.word2 ∷ r.steps ∷ r.bytes ∷ r.price ∷ [])

-- an answer slice of k words says it, any other is left as it is
unfoldable pub said_of : ℕ → List ℕ → Report → List ℕ
said_of k a r = cond (eqb (length a) k) (answer_of k r) a
