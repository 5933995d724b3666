-- What a call is handed: registers, what is lent to be read and what is lent to be changed; and how it is looked at.
use Rattle.std.specs.Prelude.{ℕ, ◌-◌, ◌*◌, List, get_or, take, drop, ltb}
use Rattle.machine.specs.declared.state.VMState.{VMState}
use Rattle.choices.specs.Choice.{cond}
use Rattle.machine.specs.Ram.{Cells, cells}

-- the program, a list of slots (an opcode and an argument each), and the inputs; five words are a secret digest
pub record Code : Type 0 where
  pub opcodes : List ℕ
  pub arguments : List ℕ
  pub public : List ℕ
  pub secret : List ℕ
  pub digests : List ℕ

-- op stack, bottom first; jump stack, by origins and destinations; RAM, by addresses and values; output
pub record Memory : Type 0 where
  pub op_stack : List ℕ
  pub origins : List ℕ
  pub destinations : List ℕ
  pub addresses : List ℕ
  pub values : List ℕ
  pub output : List ℕ

pub record Machine : Type 0 where
  pub state : VMState
  pub code : Code
  pub memory : Memory

abbrev pub machine : VMState → Code → Memory → Machine
machine s c m = record { state = s; code = c; memory = m }

abbrev pub code : List ℕ → List ℕ → List ℕ → List ℕ → List ℕ → Code
code o a u s d = record { opcodes = o; arguments = a; public = u; secret = s; digests = d }

abbrev pub memory : List ℕ → List ℕ → List ℕ → List ℕ → List ℕ → List ℕ → Memory
memory s o d a v w = record { op_stack = s; origins = o; destinations = d; addresses = a; values = v; output = w }

-- ---- op stack

-- the top sixteen words, bottom first: ST15 to ST0
unfoldable pub top_of : List ℕ → ℕ → List ℕ
top_of s depth = take 16 (drop (depth - 16) s)

-- ST i of the top sixteen words
abbrev pub st : List ℕ → ℕ → ℕ
st w i = get_or w (15 - i) 0

abbrev pub top : Machine → List ℕ
top m = top_of m.memory.op_stack m.state.depth

-- ---- RAM

abbrev pub ram : Machine → Cells
ram m = cells m.state.cells m.memory.addresses m.memory.values

-- ---- jump stack

pub data JumpTop : Type 0 where
  empty : JumpTop
  -- origin and destination
  entry : ℕ → ℕ → JumpTop

unfoldable pub jump_top : Machine → JumpTop
jump_top m =
    cond (ltb 0 m.state.jumps)
    (entry (get_or m.memory.origins (m.state.jumps - 1) 0) (get_or m.memory.destinations (m.state.jumps - 1) 0))
    empty

-- ---- inputs not yet taken

abbrev pub public_left : Machine → List ℕ
public_left m = drop m.state.publics m.code.public

abbrev pub secret_left : Machine → List ℕ
secret_left m = drop m.state.secrets m.code.secret

abbrev pub digests_left : Machine → List ℕ
digests_left m = drop (5 * m.state.digests) m.code.digests
