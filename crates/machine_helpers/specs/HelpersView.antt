-- What the code of the helper variables looks at, relies on and promises.
use Rattle.std.specs.Prelude.{ℕ, ◌*◌, ◌≤◌, ◌≡◌, List, length}
use Rattle.machine.specs.Words.{Words}
use Rattle.machine_ram.specs.RamView.{Usable}
use Rattle.machine_ram.specs.LentCells.{cells_of}
use Rattle.machine.specs.Instruction.{decode}
use Rattle.machine.specs.Machine.{Machine, ram, digests_left}
use Rattle.machine.specs.Machine as M
use Rattle.machine.specs.HelperVariables.{filled, helpers_in, helpers_at}
use Rattle.machine_helpers.specs.declared.seen.Seen.{Seen}

-- what is looked at is what the machine m shows
pub record Shows (m : Machine) (s : Seen) : Type 0 where
  pub top : M.top m ≡ s.top.words
  pub pointer : m.state.pointer ≡ s.pointer
  pub opcodes : m.code.opcodes ≡ s.opcodes.now
  pub arguments : m.code.arguments ≡ s.arguments.now
  pub digests : digests_left m ≡ s.digests.now
  pub cells : ram m ≡ cells_of s.ram

-- of a slot with an opcode and an argument
pub record HelpsAs (s : Seen) (opcode argument : ℕ) (r : List ℕ) : Type 0 where
  pub is : (m : Machine) → Shows m s → r ≡ filled (helpers_in (decode opcode) argument m)

-- of the machine that shows what is looked at
pub record HelpersOf (s : Seen) (r : List ℕ) : Type 0 where
  pub is : (m : Machine) → Shows m s → r ≡ helpers_at m

-- ---- a machine

-- what a sound one shows
pub record Helpable (m : Machine) : Type 0 where
  pub slots : length m.code.opcodes ≡ length m.code.arguments
  pub deep : 16 ≤ m.state.depth
  pub used : m.state.depth ≤ length m.memory.op_stack
  pub words : Words m.memory.op_stack
  pub digests : 5 * m.state.digests ≤ length m.code.digests
  pub usable : Usable (ram m)

-- another one shows the same to the helper variables
pub record HelpersAlike (m x : Machine) : Type 0 where
  pub top : M.top x ≡ M.top m
  pub pointer : x.state.pointer ≡ m.state.pointer
  pub opcodes : x.code.opcodes ≡ m.code.opcodes
  pub arguments : x.code.arguments ≡ m.code.arguments
  pub digests : digests_left x ≡ digests_left m
  pub cells : ram x ≡ ram m

-- of m and of all that show the same, whatever else they have
pub record HelpersAre (m : Machine) (r : List ℕ) : Type 0 where
  pub is : (x : Machine) → HelpersAlike m x → r ≡ helpers_at x
