-- The calls over numbers and slices that give words of a machine, from the registers w: the machine's helper_variables_of and processor_row_of.
use Rattle.std.specs.Prelude.{List, ℕ, length, replicate, eqb}
use Rattle.choices.specs.Choice.{cond}
use Rattle.machine.specs.Lengths.{row_words}
use Rattle.machine.specs.Machine.{Code, Memory, Machine, machine}
use Rattle.machine.specs.Given.{Given, given}
use Rattle.machine.specs.HelperVariables.{helper_variables_of}
use Rattle.machine.specs.ProcessorRow.{processor_row_of}
use Rattle.exports_words.specs.Registers.{state_of}
use Rattle.exports_words.specs.Calls.{fits_of}

-- k zeros; a slice of another length stays
unfoldable pub zeroed : ℕ → List ℕ → List ℕ
zeroed k v = cond (eqb (length v) k) (replicate k 0) v

-- k words of the machine, which f gives, go into v
unfoldable pub given_call : ℕ → (Machine → Given) → List ℕ → List ℕ → Code → Memory → Given
given_call k f w v c m = cond (fits_of w v k) (f (machine (state_of w) c m)) (given 1 (zeroed k v))

abbrev pub helper_call : List ℕ → List ℕ → Code → Memory → Given
helper_call = given_call 6 helper_variables_of

abbrev pub row_call : List ℕ → List ℕ → Code → Memory → Given
row_call = given_call row_words processor_row_of
