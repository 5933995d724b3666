-- What the code's answers to run, trace_execution and trace_rows stand for: the path that their definitions say and what its steps cost; run writes no log,
-- trace_execution the records of its steps, and trace_rows their rows too.
use Rattle.std.specs.Prelude.{ℕ, ◌≤◌, ◌≡◌, Bool, true, false, List, [], length, ⊤}
use Rattle.machine.specs.Lengths.{longest}
use Rattle.machine.specs.Machine.{Memory, Machine}
use Rattle.machine.specs.Decide.{decide_of}
use Rattle.machine.specs.Records.{log_bytes}
use Rattle.machine.specs.FeeTable.{Fees, unpriced, priced}
use Rattle.machine.specs.Fee.{fee_of}
use Rattle.machine.specs.Path.{Path, log_from}
use Rattle.machine.specs.Run.{call_by, run_of, trace_execution_of, trace_rows_of}
use Rattle.machine.specs.ProcessorRow.{rows_from}
use Rattle.machine_fees.specs.FeeView.{Priceable}
use Rattle.machine_steps.specs.declared.answer.Ran.{Ran}
use Rattle.machine_steps.specs.RanView.{RanAs, RanOn}
use Rattle.machine_steps.specs.StepsView.{space_of, log_of, rows_of}

-- the bytes of the records of a path's steps from m
abbrev pub path_log : Machine → Path → List ℕ
path_log m p = log_bytes m.state.revision (log_from decide_of m p.machines)

-- f is the fee table, where there is one

abbrev pub Runs : Fees → ℕ → Machine → Ran → Memory → Type 0
Runs f budget m r n = let p = run_of f budget m in RanAs p (fee_of f m p.machines) [] m.code [] r n []

abbrev pub Traces : Fees → ℕ → Machine → List ℕ → Ran → Memory → List ℕ → Type 0
Traces f budget m b r n b2 = let p = trace_execution_of f budget m b in RanAs p (fee_of f m p.machines) (path_log m p) m.code b r n b2

abbrev pub TracesRows : Fees → ℕ → Machine → List ℕ → List ℕ → Ran → Memory → List ℕ → List ℕ → Type 0
TracesRows f budget m b w r n b2 w2 =
    let p = trace_rows_of f budget m b w in
    RanOn p (fee_of f m p.machines) (path_log m p) (rows_from m p.machines) m.code b w r n b2 w2

-- ---- the three at once: t says whether records are asked for, and u whether rows are

-- what is not asked for is handed in all the same, and short
pub record Unasked (t u : Bool) (b w : List ℕ) : Type 0 where
  pub log : t ≡ false → length b ≤ longest
  pub table : u ≡ false → length w ≤ longest

-- there is room for prices, where there is a table
abbrev pub PriceableBy : Fees → List ℕ → Type 0
PriceableBy unpriced ps = ⊤
PriceableBy (priced t) ps = Priceable ps

pub record Lendable (t u : Bool) (f : Fees) (b w ps : List ℕ) : Type 0 where
  pub unasked : Unasked t u b w
  pub prices : PriceableBy f ps

abbrev pub Calls : Bool → Bool → Fees → ℕ → Machine → List ℕ → List ℕ → Ran → Memory → List ℕ → List ℕ → Type 0
Calls t u f budget m b w r n b2 w2 =
    let p = call_by decide_of f (space_of t u (length b) (length w)) budget m in
    RanOn p (fee_of f m p.machines) (log_of t m p.machines) (rows_of u m p.machines) m.code b w r n b2 w2
