-- A row has as many words as its columns are, and so many rows as there are steps. Assumes nothing.
use mathlib.Core.Path.{◌≡◌, refl, ◌∙◌}
use mathlib.Core.List.{List, [], ◌∷◌}
use Prim.Native.Nat.{ℕ, ◌*◌}
use native.Mathlib.Omega.{arith}
use lib.ListN.{length, length-append, length-take, length-replicate}
use lib.Dec.{ltb}
use Rattle.choices.specs.Choice.{cond}
use Rattle.machine.specs.Lengths.{row_words}
use Rattle.machine.specs.Machine.{Machine, JumpTop, empty, entry, jump_top}
use Rattle.machine.specs.Instruction.{decode}
use Rattle.machine.specs.Decide.{opcode_of, argument_of}
use Rattle.machine.specs.HelperVariables.{filled, helpers_in, helpers_at}
use Rattle.machine.specs.ProcessorRow.{instruction_bits, jump_words, stack_words, row_of, rows_from}

filled-six : (s : List ℕ) → length (filled s) ≡ 6
filled-six s = simp (length-take, length-append, length-replicate) (omega arith)

helpers_six : (m : Machine) → length (helpers_at m) ≡ 6
unfolding helpers_at
helpers_six m = filled-six (cond (ltb m.state.pointer (length m.code.opcodes)) (helpers_in (decode (opcode_of m)) (argument_of m) m) [])

jump_two : (j : JumpTop) → length (jump_words j) ≡ 2
unfolding jump_words
jump_two empty = refl
jump_two (entry o d) = refl

pub row-length : (m : Machine) → length (row_of m) ≡ row_words
unfolding row_of instruction_bits stack_words
row-length m = simp length-append (omega (arith, jump_two (jump_top m), helpers_six m))

pub rows-length : (m : Machine) (ms : List Machine) → length (rows_from m ms) ≡ row_words * length ms
unfolding rows_from
rows-length m [] = refl
rows-length m (x ∷ xs) = length-append (row_of m) (rows_from x xs) ∙ omega (arith, row-length m, rows-length x xs)
