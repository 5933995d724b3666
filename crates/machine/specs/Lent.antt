-- What is lent, as a contract names it: the program with its inputs, and the memory.
use Rattle.std.specs.Prelude.{ℕ, List, ◌≡◌}
use denote.Ref.{Bor, MutBor}
use denote.Triple.Both.{Both}
use Rattle.machine.specs.declared.lent.LentCode.{LentCode}
use Rattle.machine.specs.declared.lent.LentMemory.{LentMemory}
use Rattle.machine.specs.declared.lent.SeenMemory.{SeenMemory}
use Rattle.machine.specs.declared.lent.OpeningMemory.{OpeningMemory}
use Rattle.machine.specs.Machine.{Code, Memory, code, memory}

-- ---- as one

abbrev pub code_of : LentCode → Code
code_of c = code c.opcodes.now c.arguments.now c.public.now c.secret.now c.digests.now

abbrev pub memory_of : LentMemory → Memory
memory_of m = memory m.op_stack.now m.origins.now m.destinations.now m.addresses.now m.values.now m.output.now

-- memory that a call may only look at
abbrev pub seen : SeenMemory → Memory
seen m = memory m.op_stack.now m.origins.now m.destinations.now m.addresses.now m.values.now m.output.now

-- an opening may change the three stacks, and only looks at RAM and output
abbrev pub opening_of : OpeningMemory → Memory
opening_of m = memory m.op_stack.now m.origins.now m.destinations.now m.addresses.now m.values.now m.output.now

-- the memory b lends the slices of a, whatever is in them
pub record Keeps (a b : LentMemory) : Type 0 where
  pub op_stack : b.op_stack.ghost_name ≡ a.op_stack.ghost_name
  pub origins : b.origins.ghost_name ≡ a.origins.ghost_name
  pub destinations : b.destinations.ghost_name ≡ a.destinations.ghost_name
  pub addresses : b.addresses.ghost_name ≡ a.addresses.ghost_name
  pub values : b.values.ghost_name ≡ a.values.ghost_name
  pub output : b.output.ghost_name ≡ a.output.ghost_name

pub record KeepsOpening (a b : OpeningMemory) : Type 0 where
  pub op_stack : b.op_stack.ghost_name ≡ a.op_stack.ghost_name
  pub origins : b.origins.ghost_name ≡ a.origins.ghost_name
  pub destinations : b.destinations.ghost_name ≡ a.destinations.ghost_name
  pub addresses : b.addresses ≡ a.addresses
  pub values : b.values ≡ a.values
  pub output : b.output ≡ a.output

-- ---- slice by slice, as C lends them. `at` is for a `requires`, where a parameter is its value; in an `ensures` it is that value at entry (`in`) and
-- what it refers to at exit (`out`). Memory that a call may only look at is `shared`.

abbrev pub Slice : Type 0
Slice = Bor (List ℕ)

abbrev pub Slices : Type 0
Slices = Both Slice Slice

abbrev pub MutSlice : Type 0
MutSlice = MutBor (List ℕ)

abbrev pub MutSlices : Type 0
MutSlices = Both MutSlice MutSlice

abbrev pub code_at : Slice → Slice → Slice → Slice → Slice → Code
code_at o a u s d = code o.now a.now u.now s.now d.now

abbrev pub memory_at : MutSlice → MutSlice → MutSlice → MutSlice → MutSlice → MutSlice → Memory
memory_at s o d a v w = memory s.now o.now d.now a.now v.now w.now

abbrev pub shared_at : Slice → Slice → Slice → Slice → Slice → Slice → Memory
shared_at s o d a v w = memory s.now o.now d.now a.now v.now w.now

abbrev pub code_in : Slices → Slices → Slices → Slices → Slices → Code
code_in o a u s d = code_at o.entry a.entry u.entry s.entry d.entry

abbrev pub memory_in : MutSlices → MutSlices → MutSlices → MutSlices → MutSlices → MutSlices → Memory
memory_in s o d a v w = memory_at s.entry o.entry d.entry a.entry v.entry w.entry

abbrev pub memory_out : MutSlices → MutSlices → MutSlices → MutSlices → MutSlices → MutSlices → Memory
memory_out s o d a v w = memory_at s.exit o.exit d.exit a.exit v.exit w.exit

abbrev pub shared_in : Slices → Slices → Slices → Slices → Slices → Slices → Memory
shared_in s o d a v w = shared_at s.entry o.entry d.entry a.entry v.entry w.entry

-- an opening may change the three stacks, and only looks at RAM and output
abbrev pub opening_in : MutSlices → MutSlices → MutSlices → Slices → Slices → Slices → Memory
opening_in s o d a v w = memory s.entry.now o.entry.now d.entry.now a.entry.now v.entry.now w.entry.now

abbrev pub opening_out : MutSlices → MutSlices → MutSlices → Slices → Slices → Slices → Memory
opening_out s o d a v w = memory s.exit.now o.exit.now d.exit.now a.exit.now v.exit.now w.exit.now
