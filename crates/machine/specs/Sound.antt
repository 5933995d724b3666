-- What place A accepts, said as facts: what a step may rely on and leaves again. And what an instruction's effect has to
-- satisfy, so that a step leaves it.
use Rattle.std.specs.Prelude.{ℕ, suc, ◌+◌, ◌-◌, ◌*◌, ◌%◌, ◌≤◌, ◌<◌, ◌≡◌, List, [], ◌∷◌, length, get_or, take}
use Rattle.field.specs.Base.{p}
use Rattle.tip5.specs.declared.sponge.Sponge.{Sponge}
use Rattle.machine.specs.Words.{Words}
use Rattle.machine.specs.Ram.{Cells, held, stored, falls_of}
use Rattle.machine.specs.Machine.{Code, Machine, ram}
use Rattle.machine.specs.Effect.{Call, reset, tip5, u32, ram_read, ram_write, JumpChange, stays, pushes, pops, Effect}
use Rattle.machine.specs.Apply.{pointer_after, sponge_after}
use Rattle.machine.specs.PlaceA.{longest, opcodes3, arguments4, revision4}

pub record SoundCode (c : Code) : Type 0 where
  pub slots : length c.opcodes ≡ length c.arguments
  pub slots_few : length c.opcodes ≤ longest
  pub public_few : length c.public ≤ longest
  pub secret_few : length c.secret ≤ longest
  pub digests_few : length c.digests ≤ longest
  pub fives : length c.digests % 5 ≡ 0
  pub arguments : Words c.arguments
  pub public : Words c.public
  pub secret : Words c.secret
  pub digests : Words c.digests
  pub known : opcodes3 c.opcodes (length c.opcodes) ≡ 0
  pub allowed : arguments4 c.opcodes c.arguments (length c.opcodes) ≡ 0

pub record SoundCells (c : Cells) : Type 0 where
  pub pair : length c.addresses ≡ length c.values
  pub few : length c.addresses ≤ longest
  pub used : c.count ≤ length c.addresses
  pub addresses : Words (take c.count c.addresses)
  pub values : Words (take c.count c.values)
  pub ascending : falls_of c.addresses (c.count - 1) ≡ 0

-- the first n words of a stack are used, and the others are 0
pub record SoundStack (s : List ℕ) (n : ℕ) : Type 0 where
  pub few : length s ≤ longest
  pub used : n ≤ length s
  pub words : Words s
  pub rest : (i : ℕ) → n ≤ i → get_or s i 0 ≡ 0

pub record SoundSponge (s : Sponge) : Type 0 where
  pub sixteen : length s.words ≡ 16
  pub words : Words s.words

pub record Sound (m : Machine) : Type 0 where
  pub code : SoundCode m.code
  pub deep : 16 ≤ m.state.depth
  pub op_stack : SoundStack m.memory.op_stack m.state.depth
  pub origins : SoundStack m.memory.origins m.state.jumps
  pub destinations : SoundStack m.memory.destinations m.state.jumps
  pub paired : length m.memory.origins ≡ length m.memory.destinations
  pub cells : SoundCells (ram m)
  pub output_few : length m.memory.output ≤ longest
  pub outputs : m.state.outputs ≤ length m.memory.output
  pub publics : m.state.publics ≤ length m.code.public
  pub secrets : m.state.secrets ≤ length m.code.secret
  pub digests : 5 * m.state.digests ≤ length m.code.digests
  pub sponge : SoundSponge m.state.sponge
  pub pointer : m.state.pointer < p
  pub clock : m.state.clock < 4294967296
  pub revision : revision4 m.state.revision ≡ 0

-- ---- effects

-- an effect's calls, made on the cells c: traces of six states, words, and reads of the words held
pub data Honest : Cells → List Call → Type 0 where
  none : {c : Cells} → Honest c []
  resets : {c : Cells} {cs : List Call} → Honest c cs → Honest c (reset ∷ cs)
  traces : {c : Cells} {cs : List Call} {o : ℕ} {t : List ℕ} → length t ≡ 96 → Honest c cs → Honest c (tip5 o t ∷ cs)
  u32s : {c : Cells} {cs : List Call} {o l r : ℕ} → Honest c cs → Honest c (u32 o l r ∷ cs)
  reads : {c : Cells} {cs : List Call} {a v : ℕ} → a < p → v < p → v ≡ held c a → Honest c cs → Honest c (ram_read a v ∷ cs)
  writes : {c : Cells} {cs : List Call} {a v : ℕ} → a < p → v < p → Honest (stored c a v) cs → Honest c (ram_write a v ∷ cs)

-- how many of the calls are RAM's
unfoldable pub ram_calls : List Call → ℕ
ram_calls [] = 0
ram_calls (reset ∷ cs) = ram_calls cs
ram_calls (tip5 o t ∷ cs) = ram_calls cs
ram_calls (u32 o l r ∷ cs) = ram_calls cs
ram_calls (ram_read a v ∷ cs) = suc (ram_calls cs)
ram_calls (ram_write a v ∷ cs) = suc (ram_calls cs)

-- what is pushed on the jump stack are words
pub data HonestJump : JumpChange → Type 0 where
  staying : HonestJump stays
  popping : HonestJump pops
  pushing : {o d : ℕ} → o < p → d < p → HonestJump (pushes o d)

-- what demand 3 and 'a step leaves what place A accepts' need of an instruction's effect
pub record Facts (m : Machine) (e : Effect) : Type 0 where
  -- it takes at most sixteen words, and the depth stays at 16 or more
  pub pops : e.pops ≤ 16
  pub deep : 16 + e.pops ≤ m.state.depth + length e.words
  -- by at most ten words deeper or less deep
  pub grows : length e.words ≤ e.pops + 10
  pub shrinks : e.pops ≤ length e.words + 10
  -- what it puts on, and where it goes, are words
  pub words : Words e.words
  pub next : pointer_after m e.next < p
  pub jump : HonestJump e.jump
  -- its RAM reads carry the words held, and it makes at most ten RAM accesses
  pub calls : Honest (ram m) e.calls
  pub accesses : ram_calls e.calls ≤ 10
  -- it takes no more input than there is
  pub publics : m.state.publics + e.publics ≤ length m.code.public
  pub secrets : m.state.secrets + e.secrets ≤ length m.code.secret
  pub digests : 5 * (m.state.digests + e.digests) ≤ length m.code.digests
  -- and it leaves a sponge of words
  pub sponge : SoundSponge (sponge_after m.state.sponge e.sponge)
