-- Place B as a number: 10 halted, 11 pointer outside the program, 12 depth behind the instruction under 16, or 0.
use Rattle.std.specs.Prelude.{ℕ, ◌+◌, ◌≤◌, ◌≡◌, List, length, get_or, ltb}
use Rattle.machine.specs.declared.state.VMState.{VMState}
use Rattle.choices.specs.Choice.{cond}
use Rattle.machine.specs.Words.{Words}
use Rattle.machine.specs.Instruction.{decode}
use Rattle.machine_isa.specs.InstructionView.{grown_in, shrunk_in}
use Rattle.machine.specs.PlaceA.{longest}

-- of an opcode and its argument, at a depth
abbrev pub shallow : ℕ → ℕ → ℕ → ℕ
shallow depth op n = cond (ltb (depth + grown_in (decode op) n) (16 + shrunk_in (decode op) n)) 12 0

unfoldable pub place_b : VMState → List ℕ → List ℕ → ℕ
place_b s o a = cond s.halted 10 (cond (ltb s.pointer (length o)) (shallow s.depth (get_or o s.pointer 0) (get_or a s.pointer 0)) 11)

-- an argument for each opcode, words, and a depth that does not overflow
pub record Slots (s : VMState) (o a : List ℕ) : Type 0 where
  pub pair : length o ≡ length a
  pub words : Words a
  pub depth : s.depth ≤ longest
