-- step, where the slices fit and where they do not. Assumes nothing.
use mathlib.Core.Path.{◌≡◌, refl, sym, ap, ◌∙◌}
use mathlib.Core.Bool.{Bool, true, false}
use mathlib.Core.List.{List}
use Prim.Native.Nat.{ℕ}
use Rattle.machine.specs.declared.state.VMState.{VMState}
use Rattle.machine.specs.Machine.{Code, Memory, Machine, machine}
use Rattle.machine.specs.FeeTable.{Fees, unpriced}
use Rattle.machine.specs.Fee.{row_named}
use Rattle.machine.specs.Apply.{Outcome, took, kept, lost}
use Rattle.machine.specs.Step.{step_of}
use Rattle.machine_perform.specs.declared.answer.Stepped.{Stepped}
use Rattle.machine_perform.specs.AnswerView.{answer_in}
use Rattle.machine_vm.specs.StepView.{Steps}
use Rattle.exports_words.specs.declared.report.Report.{Report}
use Rattle.exports_words.specs.Registers.{registers_of, state_of}
use Rattle.exports_words.specs.Report.{misfit, answer_words, answer_of, said_of, step_report}
use Rattle.exports_words.specs.Calls.{called, recorded, fits_of, reported}
use Rattle.exports_calls.specs.StepCall.{step_gives, step_call}
use Rattle.exports_words.proofs.CallsLaws.{written}

-- row is the one that the code names
module _ (f : Fees) (w a : List ℕ) (c : Code) (m : Memory) (b : List ℕ) {t : Bool} (e : t ≡ fits_of w a (answer_words f)) where
  pub step-called : {s : VMState} {r : Stepped} {n : Memory} {b2 : List ℕ} {p : Report} {w2 a2 : List ℕ} {row : ℕ} → t ≡ true → s ≡ state_of w → Steps f (machine s c m) b r n b2 →
      row ≡ row_named f (machine s c m) (step_of f (machine s c m) b).outcome →
      p ≡ step_report (answer_in r.answer) r.bytes row → w2 ≡ registers_of r.state → a2 ≡ answer_of (answer_words f) p →
      recorded (called p.number w2 a2 n) b2 ≡ step_call f w a c m b
  unfolding step_call
  step-called {s} {r} {n} h g k o i j l =
      rw (sym e ∙ h)
      ((λ d. recorded (written (answer_words f) r.state n i j l d) (k.buffer d))
      ∙ (λ d. recorded (reported (answer_words f) (step_report (k.gives.answer d) (k.bytes d) (o d)) (k.gives.left d).state (k.gives.left d).memory) (step_of f (machine s c m) b).buffer)
      ∙ ap (λ (x : VMState). step_gives f (machine x c m) (step_of f (machine x c m) b)) g)

  pub step_misfits : {a2 : List ℕ} → t ≡ false → a2 ≡ said_of (answer_words f) a misfit → recorded (called 1 w a2 m) b ≡ step_call f w a c m b
  unfolding step_call
  step_misfits h k = rw (sym e ∙ h) (ap (λ (x : List ℕ). recorded (called 1 w x m) b) k)

-- without a table no row is named
pub none_named : (m : Machine) (o : Outcome) → 0 ≡ row_named unpriced m o
none_named m (took x) = refl
none_named m (kept r) = refl
none_named m (lost r x) = refl

module _ (w a : List ℕ) (c : Code) (m : Memory) (b : List ℕ) {t : Bool} (e : t ≡ fits_of w a 7) where
  pub step-unpriced : {s : VMState} {r : Stepped} {n : Memory} {b2 : List ℕ} {p : Report} {w2 a2 : List ℕ} → t ≡ true → s ≡ state_of w → Steps unpriced (machine s c m) b r n b2 →
      p ≡ step_report (answer_in r.answer) r.bytes 0 → w2 ≡ registers_of r.state → a2 ≡ answer_of 7 p → recorded (called p.number w2 a2 n) b2 ≡ step_call unpriced w a c m b
  step-unpriced {s} h g k i j l = step-called unpriced w a c m b e h g k (none_named (machine s c m) (step_of unpriced (machine s c m) b).outcome) i j l
