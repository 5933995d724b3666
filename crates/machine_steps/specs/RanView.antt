-- What the code's answers to run, trace_execution and trace_rows stand for: a path, what it cost, and the log that was written.
use Rattle.std.specs.Prelude.{ℕ, ◌≡◌, Bool, List, length}
use Rattle.choices.specs.Choice.{cond}
use Rattle.machine.specs.Refusal.{refusal_of}
use Rattle.machine.specs.Machine.{Code, Memory, machine}
use Rattle.machine.specs.Path.{the_log, the_table, Ending, halted, spent, full, refused, Path, count}
use Rattle.machine_log.specs.Logged.{logged}
use Rattle.machine_steps.specs.declared.answer.Ending.{Ending as EndingIn}
use Rattle.machine_steps.specs.declared.answer.Ending.TheVariants.{Halted, Spent, Full, TableFull, Refused}
use Rattle.machine_steps.specs.declared.answer.Ran.{Ran}

abbrev pub ending_in : EndingIn → Ending
ending_in Halted = halted
ending_in Spent = spent
ending_in Full = full the_log
ending_in TableFull = full the_table
ending_in (Refused e) = refused (refusal_of e)

abbrev pub end_of : Bool → EndingIn
end_of t = cond t Halted Spent

-- count, ending and machine are those of the path p, and its steps cost so much; the log stands from the start of the slice b on
pub record RanAs (p : Path) (cost : ℕ) (log : List ℕ) (c : Code) (b : List ℕ) (r : Ran) (n : Memory) (b2 : List ℕ) : Type 0 where
  pub steps : r.count ≡ count p
  pub ending : ending_in r.ending ≡ p.ending
  pub left : machine r.state c n ≡ p.left
  pub fee : r.fee ≡ cost
  pub bytes : r.bytes ≡ length log
  pub buffer : b2 ≡ logged b 0 log

-- and the rows from the start of the table w on
pub record RanOn (p : Path) (cost : ℕ) (log rows : List ℕ) (c : Code) (b w : List ℕ) (r : Ran) (n : Memory) (b2 w2 : List ℕ) : Type 0 where
  pub ran : RanAs p cost log c b r n b2
  pub table : w2 ≡ logged w 0 rows
