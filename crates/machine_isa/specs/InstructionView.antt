-- What the code says of an opcode besides the definitions of Instruction.
use Rattle.std.specs.Prelude.{ℕ, Option, Some, None}
use Rattle.machine_isa.specs.declared.instruction.Argument.{Argument as CodeArgument}
use Rattle.machine_isa.specs.declared.instruction.Argument.TheVariants.{Nothing, Count, StackPlace, Word}
use Rattle.machine_isa.specs.declared.instruction.Change.{Change as CodeChange}
use Rattle.machine_isa.specs.declared.instruction.Change.TheVariants.{Grows, Shrinks, GrowsByArgument, ShrinksByArgument}
use Rattle.machine.specs.Instruction.{Argument, nothing, words, place_of_stack, any, Change, grows, shrinks, grows_by_argument, shrinks_by_argument, Decoded, known, unknown, grown_by, shrunk_by}

-- what argument an instruction takes, in the code and in the table; none where there is no instruction
abbrev pub argument_of : Option CodeArgument → Option Argument
argument_of (Some Nothing) = Some nothing
argument_of (Some Count) = Some words
argument_of (Some StackPlace) = Some place_of_stack
argument_of (Some Word) = Some any
argument_of None = None

abbrev pub argument_in : Decoded → Option Argument
argument_in (known r) = Some r.argument
argument_in unknown = None

-- how it changes the depth, by 0 where there is no instruction
abbrev pub change_of : CodeChange → Change
change_of (Grows k) = grows k
change_of (Shrinks k) = shrinks k
change_of GrowsByArgument = grows_by_argument
change_of ShrinksByArgument = shrinks_by_argument

abbrev pub change_in : Decoded → Change
change_in (known r) = r.change
change_in unknown = grows 0

-- how many words deeper, and how many less deep, the stack is behind it; 0 where there is no instruction
abbrev pub grown_in : Decoded → ℕ → ℕ
grown_in (known r) n = grown_by r.change n
grown_in unknown n = 0

abbrev pub shrunk_in : Decoded → ℕ → ℕ
shrunk_in (known r) n = shrunk_by r.change n
shrunk_in unknown n = 0
