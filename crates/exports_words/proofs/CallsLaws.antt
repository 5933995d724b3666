-- What fitting slices are, and what is written of a report. Assumes nothing.
use mathlib.Core.Path.{◌≡◌, refl, sym, ap, ◌∙◌}
use mathlib.Core.Bool.{Bool, true, false}
use Rattle.std.specs.Prelude.{Option, Some, None}
use Rattle.std.proofs.lemmas.Option.{none-some}
use Rattle.choices.specs.Choice.{cond}
use mathlib.Core.List.{List}
use Prim.Native.Nat.{ℕ, ◌≤◌}
use borrow.Author.Tests.{eqb-true}
use lib.ListN.{length}
use Rattle.machine.specs.declared.state.VMState.{VMState}
use Rattle.machine.specs.Machine.{Memory}
use Rattle.exports_words.specs.declared.report.Report.{Report}
use Rattle.exports_words.specs.Registers.{registers_of, state_of, Readable}
use Rattle.exports_words.specs.Report.{misfit, answer_of, said_of, answer_words}
use Rattle.machine.specs.FeeTable.{Fees, unpriced, priced}
use native.Mathlib.Omega.{arith}
use Rattle.exports_words.specs.Calls.{called, fits_of, fitting_of, reported}
use Rattle.exports_words.proofs.RegistersLaws.{both, readable-facts}

pub record Fits (w a : List ℕ) (n : ℕ) : Type 0 where
  pub registers : Readable w
  pub answer : length a ≡ n

pub fits_facts : (w a : List ℕ) (n : ℕ) → fits_of w a n ≡ true → Fits w a n
unfolding fits_of
fits_facts w a n h =
    let k = both h in
    record { registers = readable-facts w k.0; answer = eqb-true _ _ k.1 }

abbrev held : VMState → Option VMState → VMState
held s None = s
held s (Some x) = x

-- the state that fits, where the answer is to have k words
pub record Fitting (w a : List ℕ) (k : ℕ) (s : VMState) : Type 0 where
  pub fits : fits_of w a k ≡ true
  pub state : s ≡ state_of w
  pub registers : Readable w
  pub answer : length a ≡ k

pub fitting_some : (w a : List ℕ) (n k : ℕ) (s : VMState) → n ≡ k → Some s ≡ fitting_of w a n → Fitting w a k s
fitting_some w a n k s e h = go (fits_of w a k) refl (rw e at h)
  where
    go : (t : Bool) → fits_of w a k ≡ t → Some s ≡ cond t (Some (state_of w)) None → Fitting w a k s
    go true q h = let f = fits_facts w a k q in record { fits = q; state = ap (held s) h; registers = f.registers; answer = f.answer }
    go false q h = absurd (none-some s (sym h))

pub fitting_none : (w a : List ℕ) (n k : ℕ) → n ≡ k → None ≡ fitting_of w a n → fits_of w a k ≡ false
fitting_none w a n k e h = go (fits_of w a k) (rw e at h)
  where
    go : (t : Bool) → None ≡ cond t (Some (state_of w)) None → t ≡ false
    go true h = absurd (none-some (state_of w) h)
    go false h = refl

-- an answer has eight words at the most
pub few_words : (f : Fees) {n : ℕ} → n ≡ answer_words f → n ≤ 8
few_words unpriced h = omega (arith, h)
few_words (priced t) h = omega (arith, h)

-- what a call says that does not fit
pub said : (a : List ℕ) {n k : ℕ} {b : List ℕ} → n ≡ k → b ≡ said_of n a misfit → b ≡ said_of k a misfit
said a e h = h ∙ ap (λ (x : ℕ). said_of x a misfit) e

-- what was written, by a report
pub written : (k : ℕ) (s : VMState) (m : Memory) {r q : Report} {w a : List ℕ} → r ≡ q → w ≡ registers_of s → a ≡ answer_of k r → called r.number w a m ≡ reported k q s m
written k s m e f g = rw (f, g, e)

-- an answer that was k words long
pub answered : (p : Report) {n k : ℕ} {a : List ℕ} → n ≡ k → a ≡ answer_of n p → a ≡ answer_of k p
answered p h e = e ∙ ap (λ (i : ℕ). answer_of i p) h
