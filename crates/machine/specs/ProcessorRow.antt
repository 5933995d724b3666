-- The row of the processor table for a machine before its step, as to_processor_row in vm.rs has it. Its columns, in this order: CLK, IP, CI, NIA,
-- IB0 to IB6, JSP, JSO, JSD, ST0 to ST15, the op stack pointer, HV0 to HV5.
use Rattle.std.specs.Prelude.{ℕ, ◌/◌, ◌%◌, ◌^◌, List, [], ◌∷◌, ◌++◌, length, eqb, ltb}
use Rattle.choices.specs.Choice.{cond}
use Rattle.machine.specs.Lengths.{row_words}
use Rattle.machine.specs.Instruction.{size_of}
use Rattle.machine.specs.Machine.{Machine, JumpTop, empty, entry, st, top, jump_top}
use Rattle.machine.specs.Decide.{opcode_of, argument_of}
use Rattle.machine.specs.Given.{Given, given_of}
use Rattle.machine.specs.HelperVariables.{next_opcode, helpers_at}

-- CI: the opcode at the pointer; outside the program that of nop
unfoldable pub current_instruction : Machine → ℕ
current_instruction m = cond (ltb m.state.pointer (length m.code.opcodes)) (opcode_of m) 8

-- NIA: the argument of an instruction that takes one; else the next slot's opcode, and 1 where there is none. 0 outside the program
unfoldable pub next_instruction_or_argument : Machine → ℕ
next_instruction_or_argument m =
    cond (ltb m.state.pointer (length m.code.opcodes))
    (cond (eqb (size_of (opcode_of m)) 2) (argument_of m) (next_opcode m.code.opcodes m.state.pointer))
    0

-- IB0 to IB6: the binary digits of an opcode
unfoldable pub instruction_bits : ℕ → List ℕ
instruction_bits o = o % 2 ∷ o / 2 % 2 ∷ o / 4 % 2 ∷ o / 8 % 2 ∷ o / 16 % 2 ∷ o / 32 % 2 ∷ o / 64 % 2 ∷ []

-- JSO and JSD: origin and destination on top of the jump stack
unfoldable pub jump_words : JumpTop → List ℕ
jump_words empty = 0 ∷ 0 ∷ []
jump_words (entry o d) = o ∷ d ∷ []

-- ST0 to ST15
unfoldable pub stack_words : List ℕ → List ℕ
stack_words w =
    st w 0 ∷ st w 1 ∷ st w 2 ∷ st w 3 ∷ st w 4 ∷ st w 5 ∷ st w 6 ∷ st w 7
    ∷ st w 8 ∷ st w 9 ∷ st w 10 ∷ st w 11 ∷ st w 12 ∷ st w 13 ∷ st w 14 ∷ st w 15 ∷ []

unfoldable pub row_of : Machine → List ℕ
row_of m =
    (m.state.clock ∷ m.state.pointer % 2 ^ 32 ∷ current_instruction m ∷ next_instruction_or_argument m ∷ [])
    ++ instruction_bits (current_instruction m)
    ++ (m.state.jumps ∷ jump_words (jump_top m))
    ++ stack_words (top m)
    ++ (m.state.depth ∷ helpers_at m)

-- the rows of the steps from m through the machines
unfoldable pub rows_from : Machine → List Machine → List ℕ
rows_from m [] = []
rows_from m (x ∷ xs) = row_of m ++ rows_from x xs

-- the call that gives one row
abbrev pub processor_row_of : Machine → Given
processor_row_of m = given_of m row_words (row_of m)
