-- Which effect the code's stands for.
use Rattle.std.specs.Prelude.{◌≡◌, ℕ, ◌-◌, ◌<◌, ◌≤◌, List, [], ◌∷◌, ◌++◌, length, map, take, drop, Result, Ok, Err, Option, Some, None}
use Rattle.machine_isa.specs.declared.few.Few.{Few}
use Rattle.machine_isa.specs.FewWords.{words_of}
use Rattle.machine_effects.specs.declared.effect.Effect.{Effect as CodeEffect}
use Rattle.machine_effects.specs.declared.effect.Next.{Next as CodeNext}
use Rattle.machine_effects.specs.declared.effect.Next.TheVariants.{Onward, To}
use Rattle.machine_effects.specs.declared.effect.JumpEntry.{JumpEntry}
use Rattle.machine_effects.specs.declared.effect.JumpChange.{JumpChange as CodeJump}
use Rattle.machine_effects.specs.declared.effect.JumpChange.TheVariants.{Stays, Pushes, Pops}
use Rattle.machine_effects.specs.declared.effect.U32Call.{U32Call}
use Rattle.machine_effects.specs.declared.effect.U32Calls.{U32Calls}
use Rattle.machine_effects.specs.declared.effect.U32Calls.TheVariants.{Zero, One, Two}
use Rattle.machine_effects.specs.declared.effect.Direction.{Direction}
use Rattle.machine_effects.specs.declared.effect.Direction.TheVariants.{Read, Write}
use Rattle.machine_effects.specs.declared.effect.Access.{Access}
use Rattle.machine_effects.specs.declared.effect.Accesses.{Accesses}
use Rattle.machine_effects.specs.declared.effect.Refused.{Refused}
use Rattle.machine_effects.specs.declared.effect.Refused.TheVariants.{Kept, Dropped}
use Rattle.machine.specs.Refusal.{refusal_of}
use Rattle.machine.specs.Machine.{JumpTop, empty, entry}
use Rattle.machine.specs.Effect.{Call, u32, ram_read, ram_write, Next, onward, to, JumpChange, stays, pushes, pops, keeps, Effect, Decision, acts, refuses, drops}

abbrev pub next_of : CodeNext → Next
next_of Onward = onward
next_of (To a) = to a

abbrev pub jump_of : CodeJump → JumpChange
jump_of Stays = stays
jump_of (Pushes e) = pushes e.origin e.destination
jump_of Pops = pops

abbrev pub u32_of : U32Call → Call
u32_of c = u32 c.opcode c.left c.right

abbrev pub u32s_of : U32Calls → List Call
u32s_of Zero = []
u32s_of (One a) = u32_of a ∷ []
u32s_of (Two a b) = u32_of a ∷ u32_of b ∷ []

abbrev pub access_of : Direction → Access → Call
access_of Read a = ram_read a.address a.value
access_of Write a = ram_write a.address a.value

-- the first n of a list
unfoldable pub first_accesses : Direction → List Access → ℕ → List Call
first_accesses d s n = map (access_of d) (take n s)

-- reads, then writes
abbrev pub accesses_of : Accesses → List Call
accesses_of a = first_accesses Read a.cells a.reads ++ first_accesses Write (drop a.reads a.cells) (a.count - a.reads)

-- how many of n accesses in one direction are reads
abbrev pub reads_among : Direction → ℕ → ℕ
reads_among Read n = n
reads_among Write n = 0

abbrev pub calls_of : CodeEffect → List Call
calls_of e = u32s_of e.u32s ++ accesses_of e.accesses

unfoldable pub effect_of : CodeEffect → Effect
effect_of e =
    record {
      pops = e.pops;
      words = words_of e.words;
      next = next_of e.next;
      halts = e.halts;
      jump = jump_of e.jump;
      publics = e.publics;
      secrets = e.secrets;
      digests = e.digests;
      output = words_of e.output;
      sponge = keeps;
      calls = calls_of e;
    }

unfoldable pub decision_of : Result CodeEffect Refused → Decision
unfolding effect_of
decision_of (Ok e) = acts (effect_of e)
decision_of (Err (Kept r)) = refuses (refusal_of r)
decision_of (Err (Dropped r)) = drops (refusal_of r)

-- the top of a jump stack
abbrev pub jump_top_of : Option JumpEntry → JumpTop
jump_top_of (Some e) = entry e.origin e.destination
jump_top_of None = empty

-- the first n words of what is left of an input, where there are so many
abbrev pub Taken : List ℕ → ℕ → Option (Few 16) → Type 0
Taken left n (Some w) = (n ≤ length left) × (words_of w ≡ take n left)
Taken left n None = length left < n
