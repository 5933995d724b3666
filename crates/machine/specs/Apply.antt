-- What an effect makes of the machine, and place D: whether there is room for it.
use Rattle.std.specs.Prelude.{ℕ, ◌+◌, ◌-◌, List, [], ◌∷◌, length, set, replicate, eqb}
use Rattle.std.proofs.Math.Seq.{paste}
use Rattle.tip5.specs.declared.sponge.Sponge.{Sponge}
use Rattle.choices.specs.Choice.{cond, first_of, above_of}
use Rattle.machine.specs.Refusal.{Refusal, plainly}
use Rattle.machine.specs.Ram.{Cells, stored}
use Rattle.machine.specs.Instruction.{size_of}
use Rattle.machine.specs.Machine.{Machine, machine, ram}
use Rattle.machine.specs.Effect.{Call, reset, tip5, u32, ram_read, ram_write, Next, onward, to, JumpChange, stays, pushes, pops, SpongeChange, keeps, becomes, Effect, Decision, acts, refuses, drops}
use Rattle.machine.specs.Decide.{opcode_of}

-- ---- op stack

-- s with the words w from place at on
abbrev pub put : List ℕ → ℕ → List ℕ → List ℕ
put s at w = paste s at w (length w)

-- the stack after so many words are popped and the words w pushed; what is freed is 0
unfoldable pub applied_stack : List ℕ → ℕ → ℕ → List ℕ → List ℕ
applied_stack s depth n w = put (put s (depth - n) w) (depth - n + length w) (replicate (n - length w) 0)

abbrev pub depth_after : Machine → Effect → ℕ
depth_after m e = m.state.depth - e.pops + length e.words

abbrev pub stack_after : Machine → Effect → List ℕ
stack_after m e = applied_stack m.memory.op_stack m.state.depth e.pops e.words

-- ---- jump stack: how many entries, and one of its two slices, whose pushed word is o; a freed word is 0

abbrev pub jumps_after : ℕ → JumpChange → ℕ
jumps_after n stays = n
jumps_after n (pushes o d) = n + 1
jumps_after n pops = n - 1

abbrev pub origins_after : List ℕ → ℕ → JumpChange → List ℕ
origins_after s n stays = s
origins_after s n (pushes o d) = set s n o
origins_after s n pops = set s (n - 1) 0

abbrev pub destinations_after : List ℕ → ℕ → JumpChange → List ℕ
destinations_after s n stays = s
destinations_after s n (pushes o d) = set s n d
destinations_after s n pops = set s (n - 1) 0

-- ---- RAM: the calls, in order. The definition replay_of does with their records word for word the same

unfoldable pub touched : Cells → List Call → Cells
touched c [] = c
touched c (reset ∷ cs) = touched c cs
touched c (tip5 o t ∷ cs) = touched c cs
touched c (u32 o l r ∷ cs) = touched c cs
touched c (ram_read a v ∷ cs) = touched c cs
touched c (ram_write a v ∷ cs) = touched (stored c a v) cs

abbrev pub ram_after : Machine → Effect → Cells
ram_after m e = touched (ram m) e.calls

-- ---- registers

abbrev pub pointer_after : Machine → Next → ℕ
pointer_after m onward = m.state.pointer + size_of (opcode_of m)
pointer_after m (to k) = k

abbrev pub sponge_after : Sponge → SpongeChange → Sponge
sponge_after s keeps = s
sponge_after s (becomes t) = t

-- the machine after an effect, with this pointer and this sponge
abbrev pub performed_at : Machine → Effect → ℕ → Sponge → Machine
performed_at m e q s =
    machine
    (record {
      clock = m.state.clock + 1;
      pointer = q;
      depth = depth_after m e;
      jumps = jumps_after m.state.jumps e.jump;
      cells = (ram_after m e).count;
      outputs = m.state.outputs + length e.output;
      publics = m.state.publics + e.publics;
      secrets = m.state.secrets + e.secrets;
      digests = m.state.digests + e.digests;
      sponge = s;
      halted = e.halts;
      revision = m.state.revision;
    })
    m.code
    (record {
      op_stack = stack_after m e;
      origins = origins_after m.memory.origins m.state.jumps e.jump;
      destinations = destinations_after m.memory.destinations m.state.jumps e.jump;
      addresses = (ram_after m e).addresses;
      values = (ram_after m e).values;
      output = put m.memory.output m.state.outputs e.output;
    })

unfoldable pub performed : Machine → Effect → Machine
performed m e = performed_at m e (pointer_after m e.next) (sponge_after m.state.sponge e.sponge)

-- skiz refused: the top word dropped and 0, all else as handed in
unfoldable pub dropped : Machine → Machine
dropped m =
    machine
    (record {
      clock = m.state.clock;
      pointer = m.state.pointer;
      depth = m.state.depth - 1;
      jumps = m.state.jumps;
      cells = m.state.cells;
      outputs = m.state.outputs;
      publics = m.state.publics;
      secrets = m.state.secrets;
      digests = m.state.digests;
      sponge = m.state.sponge;
      halted = m.state.halted;
      revision = m.state.revision;
    })
    m.code
    (record {
      op_stack = set m.memory.op_stack (m.state.depth - 1) 0;
      origins = m.memory.origins;
      destinations = m.memory.destinations;
      addresses = m.memory.addresses;
      values = m.memory.values;
      output = m.memory.output;
    })

-- ---- place D

unfoldable pub limits_of : Machine → Effect → ℕ
limits_of m e =
    first_of (above_of (depth_after m e) (length m.memory.op_stack) 30)
    (first_of (above_of (jumps_after m.state.jumps e.jump) (length m.memory.origins) 31)
    (first_of (above_of (ram_after m e).count (length m.memory.addresses) 32)
    (first_of (above_of (m.state.outputs + length e.output) (length m.memory.output) 33)
    (above_of m.state.clock 4294967294 34))))

-- ---- what comes of a step

pub data Outcome : Type 0 where
  took : Machine → Outcome
  -- refused, with everything kept
  kept : Refusal → Outcome
  -- refused, with the top word dropped
  lost : Refusal → Machine → Outcome

unfoldable pub settled : Machine → Decision → Outcome
settled m (acts e) = cond (eqb (limits_of m e) 0) (took (performed m e)) (kept (plainly (limits_of m e)))
settled m (refuses r) = kept r
settled m (drops r) = lost r (dropped m)
