-- Place A: what a call finds wrong with what it is handed, by numbers 1 to 5, each tried over everything before the next.
use Rattle.std.specs.Prelude.{ℕ, zero, suc, ◌-◌, ◌/◌, ◌%◌, min, List, [], ◌∷◌, length, get_or, eqb}
use Rattle.choices.specs.Choice.{cond, first_of, first_in, above_of, differ_of}
use Rattle.machine.specs.Words.{word_of2, words_of, zeros_from}
pub use Rattle.machine.specs.Lengths.{longest, too_long, most_bytes}
use Rattle.machine.specs.Ram.{cells, cells1, cells2, cells5}
use Rattle.machine.specs.Instruction.{Decoded, known, unknown, decode, argument_fault}
use Rattle.machine.specs.Machine.{Code, Memory, Machine, ram}

-- ---- 1: lengths

unfoldable pub code1 : Code → ℕ
code1 c =
    first_in
    (too_long c.opcodes
    ∷ too_long c.arguments
    ∷ too_long c.public
    ∷ too_long c.secret
    ∷ too_long c.digests
    ∷ differ_of (length c.opcodes) (length c.arguments) 1
    ∷ differ_of (length c.digests % 5) 0 1
    ∷ [])

unfoldable pub memory1 : Memory → ℕ
memory1 m =
    first_in
    (too_long m.op_stack
    ∷ above_of 16 (length m.op_stack) 1
    ∷ too_long m.origins
    ∷ too_long m.destinations
    ∷ differ_of (length m.origins) (length m.destinations) 1
    ∷ cells1 (cells 0 m.addresses m.values)
    ∷ too_long m.output
    ∷ [])

-- step's call buffer, for a log of revision v
unfoldable pub buffer1 : ℕ → List ℕ → ℕ
buffer1 v b = first_of (too_long b) (above_of (most_bytes v) (length b) 1)

-- ---- 2: words at or above p. A used word is one of the slice whose index is below the count

unfoldable pub code2 : Code → ℕ
code2 c =
    first_in
    (words_of c.arguments (length c.arguments)
    ∷ words_of c.public (length c.public)
    ∷ words_of c.secret (length c.secret)
    ∷ words_of c.digests (length c.digests)
    ∷ [])

-- the first n of a slice, or all where it has less
abbrev pub used2 : List ℕ → ℕ → ℕ
used2 s n = words_of s (min n (length s))

unfoldable pub machine2 : Machine → ℕ
machine2 m =
    first_in
    (code2 m.code
    ∷ used2 m.memory.op_stack m.state.depth
    ∷ used2 m.memory.origins m.state.jumps
    ∷ used2 m.memory.destinations m.state.jumps
    ∷ cells2 (ram m)
    ∷ words_of m.state.sponge.words 16
    ∷ word_of2 m.state.pointer
    ∷ [])

-- ---- 3 and 4: slots, reached or not, and the revision

abbrev pub unknown3 : Decoded → ℕ
unknown3 (known r) = 0
unknown3 unknown = 3

abbrev pub argument4 : Decoded → ℕ → ℕ
argument4 (known r) n = argument_fault r.argument n
argument4 unknown n = 0

-- over the first n slots
unfoldable pub opcodes3 : List ℕ → ℕ → ℕ
opcodes3 s zero = 0
opcodes3 s (suc n) = first_of (opcodes3 s n) (unknown3 (decode (get_or s n 0)))

unfoldable pub arguments4 : List ℕ → List ℕ → ℕ → ℕ
arguments4 s a zero = 0
arguments4 s a (suc n) = first_of (arguments4 s a n) (argument4 (decode (get_or s n 0)) (get_or a n 0))

unfoldable pub code34 : Code → ℕ
code34 c = first_of (opcodes3 c.opcodes (length c.opcodes)) (arguments4 c.opcodes c.arguments (length c.opcodes))

-- 4 for a revision that there is not
unfoldable pub revision4 : ℕ → ℕ
revision4 v = cond (eqb v 1) 0 (cond (eqb v 2) 0 4)

-- ---- 5: depth, counts and positions outside their slices, unused stack words that are not 0, RAM addresses that do not ascend

-- what stands at place n and behind it
abbrev pub unused5 : List ℕ → ℕ → ℕ
unused5 s n = zeros_from s n (length s - n)

unfoldable pub machine5 : Machine → ℕ
machine5 m =
    first_in
    (above_of 16 m.state.depth 5
    ∷ above_of m.state.depth (length m.memory.op_stack) 5
    ∷ above_of m.state.jumps (length m.memory.origins) 5
    ∷ above_of m.state.outputs (length m.memory.output) 5
    ∷ above_of m.state.publics (length m.code.public) 5
    ∷ above_of m.state.secrets (length m.code.secret) 5
    ∷ above_of m.state.digests (length m.code.digests / 5) 5
    ∷ unused5 m.memory.op_stack m.state.depth
    ∷ unused5 m.memory.origins m.state.jumps
    ∷ unused5 m.memory.destinations m.state.jumps
    ∷ cells5 (ram m)
    ∷ [])

-- ---- the calls; 0 where nothing is wrong

-- run and helper variables
unfoldable pub machine_a : Machine → ℕ
machine_a m = first_in (first_of (code1 m.code) (memory1 m.memory) ∷ machine2 m ∷ code34 m.code ∷ revision4 m.state.revision ∷ machine5 m ∷ [])

-- step, with its call buffer
unfoldable pub step_a : Machine → List ℕ → ℕ
step_a m b = first_of (buffer1 m.state.revision b) (machine_a m)

-- open: the log's revision, the program digest, the program and inputs, the lent memory and how many of its RAM cells are used
unfoldable pub open_a : ℕ → List ℕ → Code → Memory → ℕ → ℕ
open_a v digest c m n =
    first_in
    (first_of (code1 c) (memory1 m)
    ∷ first_in (code2 c ∷ words_of digest 5 ∷ cells2 (cells n m.addresses m.values) ∷ [])
    ∷ code34 c
    ∷ revision4 v
    ∷ cells5 (cells n m.addresses m.values)
    ∷ [])
