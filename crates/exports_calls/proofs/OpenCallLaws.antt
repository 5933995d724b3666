-- open, where the slices fit and where they do not. Assumes nothing.
use mathlib.Core.Path.{◌≡◌, refl, sym, ap, subst, ◌∙◌}
use mathlib.Core.Bool.{Bool, true, false}
use mathlib.Core.List.{List}
use Prim.Native.Nat.{ℕ}
use borrow.Author.Tests.{eqb-true}
use lib.ListN.{length}
use lib.Dec.{eqb}
use Rattle.machine.specs.declared.state.VMState.{VMState}
use Rattle.machine.specs.Machine.{Code, Memory}
use Rattle.std.specs.Prelude.{Result, Ok, Err, IsErr}
use Rattle.machine.specs.declared.refusal.InstructionError.{InstructionError}
use Rattle.machine.specs.Refusal.{Refusal, refusal_of}
use Rattle.machine.specs.FeeTable.{Fees}
use Rattle.machine_open.specs.OpenView.{opened_in, Opens}
use Rattle.exports_words.specs.declared.report.Report.{Report}
use Rattle.exports_words.specs.Report.{misfit, answer_of, said_of, open_report, answered_in}
use Rattle.exports_words.specs.Calls.{Called, called}
use Rattle.exports_calls.specs.OpenCall.{open_fits_of, unopened, open_gives, open_call, registers_behind}
use Rattle.exports_words.proofs.RegistersLaws.{both}

pub record OpenFits (w a g : List ℕ) : Type 0 where
  pub registers : length w ≡ 28
  pub answer : length a ≡ 7
  pub digest : length g ≡ 5

pub open_fits-facts : (w a g : List ℕ) {t : Bool} → t ≡ open_fits_of w a g → t ≡ true → OpenFits w a g
unfolding open_fits_of
open_fits-facts w a g e h =
    let k = both (sym e ∙ h) in
    let l = both k.1 in
    record { registers = eqb-true _ _ k.0; answer = eqb-true _ _ l.0; digest = eqb-true _ _ l.1 }

-- the answer's number
module _ (w : List ℕ) (c : Code) (m : Memory) {n : Memory} where
  opens_as : (r : Result VMState InstructionError) → (IsErr r → n ≡ m) →
      called (open_report (answered_in r)).number (registers_behind r w) (answer_of 7 (open_report (answered_in r))) n ≡ open_gives w m (opened_in c n r)
  opens_as (Ok s) k = refl
  opens_as (Err e) k = ap (unopened' (refusal_of e)) (k refl)
    where
      unopened' : Refusal → Memory → Called
      unopened' r x = unopened w x r

module _ (y : Fees) (w a : List ℕ) (v : ℕ) (g : List ℕ) (k : ℕ) (c : Code) (m : Memory) {t : Bool} (e : t ≡ open_fits_of w a g) where
  pub open_called : {d : List ℕ} {x : Result VMState InstructionError} {n : Memory} {p : Report} {w2 a2 : List ℕ} → t ≡ true → d ≡ g → Opens y v d c m k x n →
      p ≡ open_report (answered_in x) → w2 ≡ registers_behind x w → a2 ≡ answer_of 7 p → called p.number w2 a2 n ≡ open_call y w a v g k c m
  unfolding open_call
  open_called {d} {x} {n} {p} {w2} {a2} h f q i j l =
      rw (sym e ∙ h, ← f)
      ((λ z. called (i z).number (j z) ((l ∙ ap (answer_of 7) i) z) n)
      ∙ opens_as w c m x q.stays
      ∙ ap (open_gives w m) q.is)

  pub open_misfits : {a2 : List ℕ} → t ≡ false → a2 ≡ said_of 7 a misfit → called 1 w a2 m ≡ open_call y w a v g k c m
  unfolding open_call
  open_misfits h q = rw (sym e ∙ h) (ap (λ (x : List ℕ). called 1 w x m) q)
