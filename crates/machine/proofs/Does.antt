-- What the laws of the instructions say of an effect: its own part (what it takes, puts and records) and the rest, which most effects share. Assumes nothing.
use mathlib.Core.Path.{◌≡◌, refl}
use mathlib.Core.Bool.{Bool}
use mathlib.Core.List.{List, [], ◌∷◌}
use Prim.Native.Nat.{ℕ, zero, suc, ◌+◌, ◌*◌, ◌≤◌, ◌<◌}
use native.Mathlib.Omega.{arith}
use lib.ListN.{length}
use Rattle.field.specs.Base.{p}
use Rattle.machine.specs.Words.{Words}
use Rattle.machine.specs.Lengths.{clock_bytes}
use Rattle.machine.specs.Instruction.{size_of}
use Rattle.machine.specs.Machine.{Machine, ram}
use Rattle.machine.specs.Effect.{Call, reset, tip5, u32, ram_read, ram_write, Effect, onward, stays, SpongeChange, keeps}
use Rattle.machine.specs.Decide.{opcode_of}
use Rattle.machine.specs.Apply.{pointer_after, sponge_after}
use Rattle.machine.specs.Sound.{SoundSponge, Sound, Honest, HonestJump}
use Rattle.machine.proofs.Rows.{size_small}

-- what the records of a step count for: their bytes, or 1 and 0 where records of one kind are counted
pub record Weights : Type 0 where
  pub of_reset : ℕ
  pub of_tip5 : ℕ
  pub of_u32 : ℕ
  pub of_ram : ℕ
  pub of_stack : ℕ

abbrev pub weights : ℕ → ℕ → ℕ → ℕ → ℕ → Weights
weights a b c d e = record { of_reset = a; of_tip5 = b; of_u32 = c; of_ram = d; of_stack = e }

abbrev pub weight : Weights → Call → ℕ
weight per reset = per.of_reset
weight per (tip5 o t) = per.of_tip5
weight per (u32 o l r) = per.of_u32
weight per (ram_read a v) = per.of_ram
weight per (ram_write a v) = per.of_ram

abbrev pub weighed : Weights → List Call → ℕ
weighed per [] = 0
weighed per (c ∷ cs) = weight per c + weighed per cs

-- the bytes of a record of each kind in a log of revision v, and of the calls' records
abbrev pub per_byte : ℕ → Weights
per_byte v = weights 4 (774 + clock_bytes v) (22 + clock_bytes v) 25 25

abbrev pub call_sizes : ℕ → List Call → ℕ
call_sizes v cs = weighed (per_byte v) cs

-- n accesses to RAM
abbrev pub access_sizes : Weights → ℕ → ℕ
access_sizes per zero = 0
access_sizes per (suc n) = per.of_ram + access_sizes per n

-- the stack grows and shrinks by so much, and the calls count for so much
pub record Own (per : Weights) (m : Machine) (grown shrunk size : ℕ) (e : Effect) : Type 0 where
  pub pops : e.pops ≤ 16
  pub change : length e.words + shrunk ≡ e.pops + grown
  pub words : Words e.words
  pub calls : Honest (ram m) e.calls
  pub sizes : weighed per e.calls ≡ size

pub record Rest (m : Machine) (e : Effect) : Type 0 where
  pub next : pointer_after m e.next < p
  pub jump : HonestJump e.jump
  pub publics : m.state.publics + e.publics ≤ length m.code.public
  pub secrets : m.state.secrets + e.secrets ≤ length m.code.secret
  pub digests : 5 * (m.state.digests + e.digests) ≤ length m.code.digests
  pub sponge : SoundSponge (sponge_after m.state.sponge e.sponge)

pub record Does (per : Weights) (m : Machine) (grown shrunk size : ℕ) (e : Effect) : Type 0 where
  pub own : Own per m grown shrunk size e
  pub rest : Rest m e

module _ (m : Machine) (s : Sound m) (here : m.state.pointer < length m.code.opcodes) where
  -- two slots on is still a word
  pub near : m.state.pointer + 3 < p
  near = omega (arith, s.code.slots_few)

  pub onward_word : m.state.pointer + size_of (opcode_of m) < p
  onward_word = omega (arith, near, size_small (opcode_of m))

module _ (per : Weights) (m : Machine) (s : Sound m) (here : m.state.pointer < length m.code.opcodes) where
  -- effects that only take, put, record and change the sponge: their pops, and by how much the stack grows and shrinks
  pub sponges : {ws out : List ℕ} {cs : List Call} {t : Bool} {z : SpongeChange} {b : ℕ} (n g h : ℕ) → Words ws → Honest (ram m) cs → weighed per cs ≡ b →
      SoundSponge (sponge_after m.state.sponge z) → n ≤ 16 → length ws + h ≡ n + g →
      Does per m g h b (record { pops = n; words = ws; next = onward; halts = t; jump = stays; publics = 0; secrets = 0; digests = 0; output = out; sponge = z; calls = cs })
  sponges n g h w k z y l c = record {
    own = record { pops = l; change = c; words = w; calls = k; sizes = z };
    rest = record {
      next = onward_word m s here;
      jump = HonestJump.staying;
      publics = omega (arith, s.publics);
      secrets = omega (arith, s.secrets);
      digests = omega (arith, s.digests);
      sponge = y;
    };
  }

  pub records : {ws out : List ℕ} {cs : List Call} {t : Bool} {b : ℕ} (n g h : ℕ) → Words ws → Honest (ram m) cs → weighed per cs ≡ b → n ≤ 16 →
      length ws + h ≡ n + g →
      Does per m g h b (record { pops = n; words = ws; next = onward; halts = t; jump = stays; publics = 0; secrets = 0; digests = 0; output = out; sponge = keeps; calls = cs })
  records n g h w k z l c = sponges n g h w k z s.sponge l c

  pub puts-does : {ws out : List ℕ} {t : Bool} (n g h : ℕ) → Words ws → n ≤ 16 → length ws + h ≡ n + g →
      Does per m g h 0 (record { pops = n; words = ws; next = onward; halts = t; jump = stays; publics = 0; secrets = 0; digests = 0; output = out; sponge = keeps; calls = [] })
  puts-does n g h w l c = records n g h w Honest.none refl l c
