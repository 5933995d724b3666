-- run, trace_execution and trace_rows, where the slices fit and where they do not. Assumes nothing.
use mathlib.Core.Path.{◌≡◌, sym, ap, ◌∙◌}
use mathlib.Core.Bool.{Bool, true, false}
use mathlib.Core.List.{List}
use Prim.Native.Nat.{ℕ}
use lib.ListN.{length}
use Rattle.machine.specs.declared.state.VMState.{VMState}
use Rattle.machine.specs.Machine.{Code, Memory, Machine, machine}
use Rattle.machine.specs.FeeTable.{Fees}
use Rattle.machine.specs.Fee.{fee_of}
use Rattle.machine.specs.Path.{Path}
use Rattle.machine.specs.Run.{run_of, trace_execution_of, trace_rows_of}
use Rattle.machine_log.specs.Logged.{logged}
use Rattle.machine_steps.specs.declared.answer.Ran.{Ran}
use Rattle.machine_steps.specs.RanView.{ending_in, RanAs}
use Rattle.machine_vm.specs.RunView.{Runs, Traces, TracesRows}
use Rattle.exports_words.specs.declared.report.Report.{Report}
use Rattle.exports_words.specs.Registers.{registers_of, state_of}
use Rattle.exports_words.specs.Report.{misfit, answer_words, answer_of, said_of, run_report}
use Rattle.exports_words.specs.Calls.{called, recorded, tabled, fits_of, reported}
use Rattle.exports_words.proofs.CallsLaws.{written}
use Rattle.exports_calls.specs.RunCall.{run_gives, run_call, trace_gives, trace_call, rows_gives, rows_call}

-- the words of an answer that is as p says, from x
as_path : (f : Fees) (x : Machine) {p : Path} {log : List ℕ} {c : Code} {b b2 : List ℕ} {r : Ran} {n : Memory} → RanAs p (fee_of f x p.machines) log c b r n b2 →
    reported (answer_words f) (run_report (ending_in r.ending) r.count r.bytes r.fee) r.state n ≡ run_gives f x p (length log)
as_path f x k = λ d. reported (answer_words f) (run_report (k.ending d) (k.steps d) (k.bytes d) (k.fee d)) (k.left d).state (k.left d).memory

-- and its log
recorded-path : (f : Fees) (x : Machine) {p : Path} {log : List ℕ} {c : Code} {b b2 : List ℕ} {r : Ran} {n : Memory} {q : Report} {w2 a2 : List ℕ} → RanAs p (fee_of f x p.machines) log c b r n b2 →
    q ≡ run_report (ending_in r.ending) r.count r.bytes r.fee → w2 ≡ registers_of r.state → a2 ≡ answer_of (answer_words f) q →
    recorded (called q.number w2 a2 n) b2 ≡ recorded (run_gives f x p (length log)) (logged b 0 log)
recorded-path f x {r = r} {n = n} k i j l = λ d. recorded ((written (answer_words f) r.state n i j l ∙ as_path f x k) d) (k.buffer d)

module _ (f : Fees) (budget : ℕ) (w a : List ℕ) (c : Code) (m : Memory) {t : Bool} (e : t ≡ fits_of w a (answer_words f)) where
  pub run-called : {s : VMState} {r : Ran} {n : Memory} {p : Report} {w2 a2 : List ℕ} → t ≡ true → s ≡ state_of w → Runs f budget (machine s c m) r n →
      p ≡ run_report (ending_in r.ending) r.count r.bytes r.fee → w2 ≡ registers_of r.state → a2 ≡ answer_of (answer_words f) p → called p.number w2 a2 n ≡ run_call f budget w a c m
  unfolding run_call
  run-called {s} {r} {n} h g k i j l =
      rw (sym e ∙ h)
      (written (answer_words f) r.state n i j l
      ∙ as_path f (machine s c m) k
      ∙ ap (λ (x : VMState). run_gives f (machine x c m) (run_of f budget (machine x c m)) 0) g)

  pub run_misfits : {a2 : List ℕ} → t ≡ false → a2 ≡ said_of (answer_words f) a misfit → called 1 w a2 m ≡ run_call f budget w a c m
  unfolding run_call
  run_misfits h k = rw (sym e ∙ h) (ap (λ (x : List ℕ). called 1 w x m) k)

  module _ (b : List ℕ) where
    pub trace-called : {s : VMState} {r : Ran} {n : Memory} {b2 : List ℕ} {p : Report} {w2 a2 : List ℕ} → t ≡ true → s ≡ state_of w → Traces f budget (machine s c m) b r n b2 →
        p ≡ run_report (ending_in r.ending) r.count r.bytes r.fee → w2 ≡ registers_of r.state → a2 ≡ answer_of (answer_words f) p →
        recorded (called p.number w2 a2 n) b2 ≡ trace_call f budget w a c m b
    unfolding trace_call
    trace-called {s} h g k i j l = rw (sym e ∙ h) (recorded-path f (machine s c m) k i j l ∙ ap (λ (x : VMState). trace_gives f b (machine x c m) (trace_execution_of f budget (machine x c m) b)) g)

    pub trace_misfits : {a2 : List ℕ} → t ≡ false → a2 ≡ said_of (answer_words f) a misfit → recorded (called 1 w a2 m) b ≡ trace_call f budget w a c m b
    unfolding trace_call
    trace_misfits h k = rw (sym e ∙ h) (ap (λ (x : List ℕ). recorded (called 1 w x m) b) k)

    module _ (u : List ℕ) where
      pub rows-called : {s : VMState} {r : Ran} {n : Memory} {b2 u2 : List ℕ} {p : Report} {w2 a2 : List ℕ} → t ≡ true → s ≡ state_of w → TracesRows f budget (machine s c m) b u r n b2 u2 →
          p ≡ run_report (ending_in r.ending) r.count r.bytes r.fee → w2 ≡ registers_of r.state → a2 ≡ answer_of (answer_words f) p →
          tabled (recorded (called p.number w2 a2 n) b2) u2 ≡ rows_call f budget w a c m b u
      unfolding rows_call
      rows-called {s} h g k i j l =
          rw (sym e ∙ h)
          ((λ d. tabled (recorded-path f (machine s c m) k.ran i j l d) (k.table d)) ∙ ap (λ (x : VMState). rows_gives f b u (machine x c m) (trace_rows_of f budget (machine x c m) b u)) g)

      pub rows_misfits : {a2 : List ℕ} → t ≡ false → a2 ≡ said_of (answer_words f) a misfit → tabled (recorded (called 1 w a2 m) b) u ≡ rows_call f budget w a c m b u
      unfolding rows_call
      rows_misfits h k = rw (sym e ∙ h) (ap (λ (x : List ℕ). tabled (recorded (called 1 w x m) b) u) k)
