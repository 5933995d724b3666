-- Refusals: document 01's number and the three words that a refusal carries.
use Rattle.std.specs.Prelude.{ℕ, Result, Ok, Err}
use Rattle.machine.specs.declared.refusal.PlaceA.{PlaceA}
use Rattle.machine.specs.declared.refusal.PlaceA.TheVariants as A
use Rattle.machine.specs.declared.refusal.PlaceB.{PlaceB}
use Rattle.machine.specs.declared.refusal.PlaceB.TheVariants as B
use Rattle.machine.specs.declared.refusal.PlaceD.{PlaceD}
use Rattle.machine.specs.declared.refusal.PlaceD.TheVariants as D
use Rattle.machine.specs.declared.refusal.FeeError.{FeeError}
use Rattle.machine.specs.declared.refusal.FeeError.TheVariants as F
use Rattle.machine.specs.declared.refusal.InstructionError.{InstructionError}
use Rattle.machine.specs.declared.refusal.InstructionError.TheVariants as E

pub record Refusal : Type 0 where
  pub number : ℕ
  pub word0 : ℕ
  pub word1 : ℕ
  pub word2 : ℕ

abbrev pub refusal : ℕ → ℕ → ℕ → ℕ → Refusal
refusal n a b c = record { number = n; word0 = a; word1 = b; word2 = c }

-- a refusal that carries zeros; place A's numbers 1 to 5 and place D's 30 to 34 are of this kind
abbrev pub plainly : ℕ → Refusal
plainly n = refusal n 0 0 0

-- ---- place B, before the instruction

abbrev pub machine_halted : Refusal
machine_halted = plainly 10

-- also skiz with nothing next
abbrev pub instruction_pointer_overflow : Refusal
instruction_pointer_overflow = plainly 11

abbrev pub op_stack_too_shallow : Refusal
op_stack_too_shallow = plainly 12

-- ---- place C, in the instruction

-- the word that is not a u32
abbrev pub failed_u32_conversion : ℕ → Refusal
failed_u32_conversion w = refusal 13 w 0 0

-- the words left
abbrev pub empty_public_input : ℕ → Refusal
empty_public_input n = refusal 14 n 0 0

abbrev pub empty_secret_input : ℕ → Refusal
empty_secret_input n = refusal 15 n 0 0

abbrev pub empty_secret_digest_input : Refusal
empty_secret_digest_input = plainly 16

abbrev pub jump_stack_is_empty : Refusal
jump_stack_is_empty = plainly 17

-- 1 was expected
abbrev pub assertion_failed : ℕ → Refusal
assertion_failed actual = refusal 18 1 actual 0

-- the place of the first words that differ, and both
abbrev pub vector_assertion_failed : ℕ → ℕ → ℕ → Refusal
vector_assertion_failed i expected actual = refusal 19 i expected actual

abbrev pub inverse_of_zero : Refusal
inverse_of_zero = plainly 20

abbrev pub division_by_zero : Refusal
division_by_zero = plainly 21

abbrev pub logarithm_of_zero : Refusal
logarithm_of_zero = plainly 22

abbrev pub sponge_not_initialized : Refusal
sponge_not_initialized = plainly 23

-- ---- the code's names

abbrev pub number_a : PlaceA → ℕ
number_a A.BadShape = 1
number_a A.NotAWord = 2
number_a A.InvalidOpcode = 3
number_a A.IllegalArgument = 4
number_a A.BadState = 5

abbrev pub number_b : PlaceB → ℕ
number_b B.MachineHalted = 10
number_b B.InstructionPointerOverflow = 11
number_b B.OpStackTooShallow = 12

abbrev pub number_d : PlaceD → ℕ
number_d D.OpStackFull = 30
number_d D.JumpStackFull = 31
number_d D.RamFull = 32
number_d D.OutputFull = 33
number_d D.ClockAtEnd = 34

-- the opcode, for which a fee is missing or stands twice
abbrev pub fee_refusal : FeeError → Refusal
fee_refusal F.BadFeeTable = plainly 64
fee_refusal (F.OpcodeWithoutFee op) = refusal 65 op 0 0
fee_refusal (F.OpcodeWithTwoFees op) = refusal 66 op 0 0

unfoldable pub refusal_of : InstructionError → Refusal
refusal_of (E.Handed e) = plainly (number_a e)
refusal_of (E.Fees e) = fee_refusal e
refusal_of (E.Before e) = plainly (number_b e)
refusal_of E.InstructionPointerOverflow = instruction_pointer_overflow
refusal_of (E.FailedU32Conversion w) = failed_u32_conversion w
refusal_of (E.EmptyPublicInput n) = empty_public_input n
refusal_of (E.EmptySecretInput n) = empty_secret_input n
refusal_of E.EmptySecretDigestInput = empty_secret_digest_input
refusal_of E.JumpStackIsEmpty = jump_stack_is_empty
refusal_of (E.AssertionFailed actual) = assertion_failed actual
refusal_of (E.VectorAssertionFailed i expected actual) = vector_assertion_failed i expected actual
refusal_of E.InverseOfZero = inverse_of_zero
refusal_of E.DivisionByZero = division_by_zero
refusal_of E.LogarithmOfZero = logarithm_of_zero
refusal_of E.SpongeNotInitialized = sponge_not_initialized
refusal_of (E.NoRoom e) = plainly (number_d e)

-- ---- what a check found: what its error says, and n where it found nothing

abbrev pub found_by : {A E R : Type 0} → R → (E → R) → Result A E → R
found_by n says (Ok _) = n
found_by n says (Err e) = says e

-- as a number
abbrev pub found_a : {A : Type 0} → Result A PlaceA → ℕ
found_a = found_by 0 number_a

abbrev pub found_b : {A : Type 0} → Result A PlaceB → ℕ
found_b = found_by 0 number_b

abbrev pub found_d : {A : Type 0} → Result A PlaceD → ℕ
found_d = found_by 0 number_d

-- with the words that it carries
abbrev pub found : {A : Type 0} → Result A InstructionError → Refusal
found = found_by (plainly 0) refusal_of
