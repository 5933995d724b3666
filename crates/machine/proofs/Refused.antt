-- What place A and a fee table make of the calls that take at most one step: where the number is 0 open opens, and elsewhere each gives it and changes nothing
-- (call-refuses in Run.antt says it of the others). Assumes nothing.
use mathlib.Core.Path.{◌≡◌, ap, ◌∙◌}
use mathlib.Core.List.{List}
use Prim.Native.Nat.{ℕ, ◌<◌}
use native.Mathlib.Omega.{arith}
use Rattle.std.specs.Prelude.{Result, Ok, Err, IsErrAnd}
use Rattle.machine.specs.declared.refusal.PlaceA.{PlaceA}
use Rattle.machine.specs.declared.refusal.PlaceA.TheVariants as A
use Rattle.machine.specs.declared.refusal.PlaceB.{PlaceB}
use Rattle.machine.specs.declared.refusal.PlaceB.TheVariants as B
use Rattle.machine.specs.declared.refusal.PlaceD.{PlaceD}
use Rattle.machine.specs.declared.refusal.PlaceD.TheVariants as D
use Rattle.machine.specs.declared.refusal.FeeError.{FeeError}
use Rattle.machine.specs.declared.refusal.FeeError.TheVariants as F
use Rattle.machine.specs.declared.refusal.InstructionError.{InstructionError}
use Rattle.machine.specs.declared.refusal.InstructionError.TheVariants as E
use Rattle.machine.specs.Refusal.{number_a, number_b, number_d, fee_refusal, refusal_of, found_by}
use borrow.Author.Tests.{eq-eqb, ne_eqb}
use lib.ListN.{replicate}
use Rattle.machine.specs.Machine.{Code, Memory, Machine}
use Rattle.machine.specs.Effect.{Decision}
use Rattle.machine.specs.Apply.{took, kept}
use Rattle.machine.specs.PlaceA.{open_a, machine_a, step_a}
use Rattle.machine.specs.FeeTable.{Fees, checked}
use Rattle.machine.specs.Open.{opened, open_of}
use Rattle.machine.specs.Step.{step_by}
use Rattle.machine.specs.Given.{given, given_of}

-- ---- the number of a refusal is not 0

pub number_a_some : (e : PlaceA) → 0 < number_a e
number_a_some A.BadShape = omega arith
number_a_some A.NotAWord = omega arith
number_a_some A.InvalidOpcode = omega arith
number_a_some A.IllegalArgument = omega arith
number_a_some A.BadState = omega arith

pub number_b_some : (e : PlaceB) → 0 < number_b e
number_b_some B.MachineHalted = omega arith
number_b_some B.InstructionPointerOverflow = omega arith
number_b_some B.OpStackTooShallow = omega arith

pub number_d_some : (e : PlaceD) → 0 < number_d e
number_d_some D.OpStackFull = omega arith
number_d_some D.JumpStackFull = omega arith
number_d_some D.RamFull = omega arith
number_d_some D.OutputFull = omega arith
number_d_some D.ClockAtEnd = omega arith

pub fee_some : (e : FeeError) → 0 < (fee_refusal e).number
fee_some F.BadFeeTable = omega arith
fee_some (F.OpcodeWithoutFee o) = omega arith
fee_some (F.OpcodeWithTwoFees o) = omega arith

pub refusal_some : (e : InstructionError) → 0 < (refusal_of e).number
unfolding refusal_of
refusal_some (E.Handed e) = number_a_some e
refusal_some (E.Fees e) = fee_some e
refusal_some (E.Before e) = number_b_some e
refusal_some E.InstructionPointerOverflow = omega arith
refusal_some (E.FailedU32Conversion w) = omega arith
refusal_some (E.EmptyPublicInput n) = omega arith
refusal_some (E.EmptySecretInput n) = omega arith
refusal_some E.EmptySecretDigestInput = omega arith
refusal_some E.JumpStackIsEmpty = omega arith
refusal_some (E.AssertionFailed actual) = omega arith
refusal_some (E.VectorAssertionFailed i expected actual) = omega arith
refusal_some E.InverseOfZero = omega arith
refusal_some E.DivisionByZero = omega arith
refusal_some E.LogarithmOfZero = omega arith
refusal_some E.SpongeNotInitialized = omega arith
refusal_some (E.NoRoom e) = number_d_some e

-- what a `?` hands on
pub handed_on : {A E R : Type 0} (n : R) (says : E → R) (r : Result A E) (e : E) (x : R) → IsErrAnd r (λ k. k ≡ e) → says e ≡ x → found_by n says r ≡ x
handed_on n says (Ok v) e x h k = absurd h
handed_on n says (Err d) e x h k = ap says h ∙ k

-- ---- where a call is accepted or refused

module _ (f : Fees) (v : ℕ) (g : List ℕ) (c : Code) (m : Memory) (n : ℕ) where
  pub open_accepts : (checked f (open_a v g c m n)).number ≡ 0 → open_of f v g c m n ≡ took (opened v g c m n)
  unfolding open_of
  open_accepts h = rw (eq-eqb (checked f (open_a v g c m n)).number 0 h)

  pub open_refuses : ((checked f (open_a v g c m n)).number ≡ 0 → ⊥) → open_of f v g c m n ≡ kept (checked f (open_a v g c m n))
  unfolding open_of
  open_refuses h = rw (ne_eqb (checked f (open_a v g c m n)).number 0 h)

-- helper variables, and the row
pub given-refused : (m : Machine) (k : ℕ) (s : List ℕ) → (machine_a m ≡ 0 → ⊥) → given_of m k s ≡ given (machine_a m) (replicate k 0)
unfolding given_of
given-refused m k s h = rw (ne_eqb (machine_a m) 0 h)

module _ (decide : Machine → Decision) where
  pub step-refuses : (f : Fees) (m : Machine) (b : List ℕ) → ((checked f (step_a m b)).number ≡ 0 → ⊥) → step_by decide f m b ≡ (record { outcome = kept (checked f (step_a m b)); bytes = 0; buffer = b })
  unfolding step_by
  step-refuses f m b h = rw (ne_eqb (checked f (step_a m b)).number 0 h)
