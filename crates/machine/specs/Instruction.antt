-- The 46 instructions: opcode, size, argument, depth change and bytes of records, as in instruction.rs and document 01.
use Rattle.std.specs.Prelude.{ℕ, ◌+◌, ◌*◌, Bool, true, false, List, [], ◌∷◌, eqb, ltb}
use Rattle.choices.specs.Choice.{cond}
use Rattle.machine.specs.Lengths.{clock_bytes}

pub data Instruction : Type 0 where
  -- stack
  pop : Instruction
  push : Instruction
  divine : Instruction
  pick : Instruction
  place : Instruction
  dup : Instruction
  swap : Instruction
  -- control
  halt : Instruction
  nop : Instruction
  skiz : Instruction
  call : Instruction
  return : Instruction
  recurse : Instruction
  recurse_or_return : Instruction
  assert : Instruction
  -- memory
  read_mem : Instruction
  write_mem : Instruction
  -- hashing
  hash : Instruction
  assert_vector : Instruction
  sponge_init : Instruction
  sponge_absorb : Instruction
  sponge_absorb_mem : Instruction
  sponge_squeeze : Instruction
  -- arithmetic on words
  add : Instruction
  addi : Instruction
  mul : Instruction
  invert : Instruction
  eq : Instruction
  -- arithmetic on u32
  split : Instruction
  lt : Instruction
  and : Instruction
  xor : Instruction
  log_2_floor : Instruction
  pow : Instruction
  div_mod : Instruction
  pop_count : Instruction
  -- arithmetic on extension words
  xx_add : Instruction
  xx_mul : Instruction
  x_invert : Instruction
  xb_mul : Instruction
  -- input and output
  read_io : Instruction
  write_io : Instruction
  -- many in one
  merkle_step : Instruction
  merkle_step_mem : Instruction
  xx_dot_step : Instruction
  xb_dot_step : Instruction

-- what argument an instruction takes
pub data Argument : Type 0 where
  -- none: the slot's argument is 0
  nothing : Argument
  -- a number of words, 1 to 5
  words : Argument
  -- a stack place, 0 to 15
  place_of_stack : Argument
  -- any word
  any : Argument

-- how an instruction changes the depth
pub data Change : Type 0 where
  grows : ℕ → Change
  shrinks : ℕ → Change
  -- by its argument
  grows_by_argument : Change
  shrinks_by_argument : Change

-- an instruction: its opcode, the argument that it takes, its depth change and its calls
pub record Row : Type 0 where
  pub opcode : ℕ
  pub instruction : Instruction
  pub argument : Argument
  pub change : Change
  -- how many calls it makes, apart from those of the op stack
  pub resets : ℕ
  pub traces : ℕ
  pub u32s : ℕ
  pub ram_accesses : ℕ
  -- and as many more as the argument says, times this
  pub ram_per_word : ℕ

abbrev row : ℕ → Instruction → Argument → Change → ℕ → ℕ → ℕ → ℕ → ℕ → Row
row o i a c resets traces u32s ram per_word =
    record { opcode = o; instruction = i; argument = a; change = c; resets = resets; traces = traces; u32s = u32s; ram_accesses = ram; ram_per_word = per_word }

-- opcode, instruction, argument, depth change; then its calls: sponge resets, Tip5 traces, U32, RAM, RAM per word of the argument
unfoldable pub table : List Row
table =
    row 3 pop words shrinks_by_argument 0 0 0 0 0
    ∷ row 1 push any (grows 1) 0 0 0 0 0
    ∷ row 9 divine words grows_by_argument 0 0 0 0 0
    ∷ row 17 pick place_of_stack (grows 0) 0 0 0 0 0
    ∷ row 25 place place_of_stack (grows 0) 0 0 0 0 0
    ∷ row 33 dup place_of_stack (grows 1) 0 0 0 0 0
    ∷ row 41 swap place_of_stack (grows 0) 0 0 0 0 0
    ∷ row 0 halt nothing (grows 0) 0 0 0 0 0
    ∷ row 8 nop nothing (grows 0) 0 0 0 0 0
    ∷ row 2 skiz nothing (shrinks 1) 0 0 0 0 0
    ∷ row 49 call any (grows 0) 0 0 0 0 0
    ∷ row 16 return nothing (grows 0) 0 0 0 0 0
    ∷ row 24 recurse nothing (grows 0) 0 0 0 0 0
    ∷ row 32 recurse_or_return nothing (grows 0) 0 0 0 0 0
    ∷ row 10 assert nothing (shrinks 1) 0 0 0 0 0
    ∷ row 57 read_mem words grows_by_argument 0 0 0 0 1
    ∷ row 11 write_mem words shrinks_by_argument 0 0 0 0 1
    ∷ row 18 hash nothing (shrinks 5) 0 1 0 0 0
    ∷ row 26 assert_vector nothing (shrinks 5) 0 0 0 0 0
    ∷ row 40 sponge_init nothing (grows 0) 1 0 0 0 0
    ∷ row 34 sponge_absorb nothing (shrinks 10) 0 1 0 0 0
    ∷ row 48 sponge_absorb_mem nothing (grows 0) 0 1 0 10 0
    ∷ row 56 sponge_squeeze nothing (grows 10) 0 1 0 0 0
    ∷ row 42 add nothing (shrinks 1) 0 0 0 0 0
    ∷ row 65 addi any (grows 0) 0 0 0 0 0
    ∷ row 50 mul nothing (shrinks 1) 0 0 0 0 0
    ∷ row 64 invert nothing (grows 0) 0 0 0 0 0
    ∷ row 58 eq nothing (shrinks 1) 0 0 0 0 0
    ∷ row 4 split nothing (grows 1) 0 0 1 0 0
    ∷ row 6 lt nothing (shrinks 1) 0 0 1 0 0
    ∷ row 14 and nothing (shrinks 1) 0 0 1 0 0
    ∷ row 22 xor nothing (shrinks 1) 0 0 1 0 0
    ∷ row 12 log_2_floor nothing (grows 0) 0 0 1 0 0
    ∷ row 30 pow nothing (shrinks 1) 0 0 1 0 0
    ∷ row 20 div_mod nothing (grows 0) 0 0 2 0 0
    ∷ row 28 pop_count nothing (grows 0) 0 0 1 0 0
    ∷ row 66 xx_add nothing (shrinks 3) 0 0 0 0 0
    ∷ row 74 xx_mul nothing (shrinks 3) 0 0 0 0 0
    ∷ row 72 x_invert nothing (grows 0) 0 0 0 0 0
    ∷ row 82 xb_mul nothing (shrinks 1) 0 0 0 0 0
    ∷ row 73 read_io words grows_by_argument 0 0 0 0 0
    ∷ row 19 write_io words shrinks_by_argument 0 0 0 0 0
    ∷ row 36 merkle_step nothing (grows 0) 0 1 1 0 0
    ∷ row 44 merkle_step_mem nothing (grows 0) 0 1 1 5 0
    ∷ row 80 xx_dot_step nothing (grows 0) 0 0 0 6 0
    ∷ row 88 xb_dot_step nothing (grows 0) 0 0 0 4 0
    ∷ []

-- the row of an opcode
pub data Decoded : Type 0 where
  known : Row → Decoded
  unknown : Decoded

abbrev pub decode_in : List Row → ℕ → Decoded
decode_in [] op = unknown
decode_in (r ∷ rs) op = cond (eqb r.opcode op) (known r) (decode_in rs op)

unfoldable pub decode : ℕ → Decoded
unfolding table
decode op = decode_in table op

abbrev pub known_in : Decoded → Bool
known_in (known r) = true
known_in unknown = false

-- an instruction with an argument takes two slots
abbrev pub slots_of : Argument → ℕ
slots_of nothing = 1
slots_of words = 2
slots_of place_of_stack = 2
slots_of any = 2

abbrev pub size_in : Decoded → ℕ
size_in (known r) = slots_of r.argument
size_in unknown = 1

-- the size of the instruction with an opcode
unfoldable pub size_of : ℕ → ℕ
size_of op = size_in (decode op)

-- how many words deeper, and how many less deep, the stack is behind an instruction with the argument n
abbrev pub grown_by : Change → ℕ → ℕ
grown_by (grows k) n = k
grown_by (shrinks k) n = 0
grown_by grows_by_argument n = n
grown_by shrinks_by_argument n = 0

abbrev pub shrunk_by : Change → ℕ → ℕ
shrunk_by (grows k) n = 0
shrunk_by (shrinks k) n = k
shrunk_by grows_by_argument n = 0
shrunk_by shrinks_by_argument n = n

-- the bytes of all records of a step with the row's instruction and the argument n, in a log of revision v
unfoldable pub bytes_in : ℕ → Row → ℕ → ℕ
bytes_in v r n =
    4 * r.resets + (774 + clock_bytes v) * r.traces + (22 + clock_bytes v) * r.u32s + 25 * (r.ram_accesses + n * r.ram_per_word)
    + 25 * (grown_by r.change n + shrunk_by r.change n)

-- 4 where the argument is not allowed
abbrev pub argument_fault : Argument → ℕ → ℕ
argument_fault nothing n = cond (eqb n 0) 0 4
argument_fault words n = cond (ltb n 1) 4 (cond (ltb 5 n) 4 0)
argument_fault place_of_stack n = cond (ltb 15 n) 4 0
argument_fault any n = 0
