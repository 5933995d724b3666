-- What the code of a row relies on and promises.
use Rattle.std.specs.Prelude.{ℕ, ◌+◌, ◌≤◌, ◌≡◌, Bool, true, List, [], length}
use Rattle.choices.specs.Choice.{cond}
use Rattle.machine.specs.declared.state.VMState.{VMState}
use Rattle.machine.specs.Machine.{Machine, machine, code, memory}
use Rattle.machine.specs.ProcessorRow.{row_of}
use Rattle.machine_helpers.specs.HelpersView.{Helpable}
use Rattle.machine_log.specs.Logged.{logged}

-- what a sound machine shows
pub record Rowable (m : Machine) : Type 0 where
  pub helpable : Helpable m
  pub origins : m.state.jumps ≤ length m.memory.origins
  pub destinations : m.state.jumps ≤ length m.memory.destinations

-- the registers that a row shows
pub record Shown : Type 0 where
  pub clock : ℕ
  pub pointer : ℕ
  pub depth : ℕ
  pub jumps : ℕ
  pub digests : ℕ
  pub cells : ℕ

abbrev pub shown : ℕ → ℕ → ℕ → ℕ → ℕ → ℕ → Shown
shown t q d j k n = record { clock = t; pointer = q; depth = d; jumps = j; digests = k; cells = n }

abbrev pub shown_in : VMState → Shown
shown_in s = shown s.clock s.pointer s.depth s.jumps s.digests s.cells

-- m with the registers s, and with other inputs and output, which no row shows
abbrev pub row_alike : Machine → VMState → List ℕ → List ℕ → List ℕ → Machine
row_alike m s public secret output =
    machine s (code m.code.opcodes m.code.arguments public secret m.code.digests) (memory m.memory.op_stack m.memory.origins m.memory.destinations m.memory.addresses m.memory.values output)

-- of m, whatever the other registers and slices are
pub record RowIs (m : Machine) (r : List ℕ) : Type 0 where
  pub is : (s : VMState) (public secret output : List ℕ) → shown_in s ≡ shown_in m.state → r ≡ row_of (row_alike m s public secret output)

-- ---- where rows are asked for, which u says

pub record RowTaken (u : Bool) (m : Machine) (row : List ℕ) : Type 0 where
  pub asked : u ≡ true → row ≡ row_of m
  pub alike : u ≡ true → RowIs m row

-- the row goes into the table t at a place, and the next place is behind it
pub record RowPut (u : Bool) (t : List ℕ) (at : ℕ) (row t2 : List ℕ) (next : ℕ) : Type 0 where
  pub place : next ≡ at + length (cond u row [])
  pub table : t2 ≡ logged t at (cond u row [])
