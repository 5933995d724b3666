-- An instruction is an effect: what it takes and puts, and what it records. How an effect changes the machine is Apply's.
use Rattle.std.specs.Prelude.{ℕ, ◌^◌, Bool, false, List, [], ltb}
use Rattle.tip5.specs.declared.sponge.Sponge.{Sponge}
use Rattle.choices.specs.Choice.{cond}
use Rattle.machine.specs.Refusal.{Refusal, failed_u32_conversion}

-- one of an instruction's own calls
pub data Call : Type 0 where
  -- the sponge is reset
  reset : Call
  -- under an opcode, the six states of a permutation
  tip5 : ℕ → List ℕ → Call
  -- under an opcode, left and right
  u32 : ℕ → ℕ → ℕ → Call
  -- address and value
  ram_read : ℕ → ℕ → Call
  ram_write : ℕ → ℕ → Call

-- where the pointer goes
pub data Next : Type 0 where
  -- up by the instruction's size
  onward : Next
  to : ℕ → Next

pub data JumpChange : Type 0 where
  stays : JumpChange
  -- origin and destination
  pushes : ℕ → ℕ → JumpChange
  pops : JumpChange

pub data SpongeChange : Type 0 where
  keeps : SpongeChange
  becomes : Sponge → SpongeChange

pub record Effect : Type 0 where
  -- how many words it takes off the op stack, and which it puts on, the first lowest
  pub pops : ℕ
  pub words : List ℕ
  pub next : Next
  pub halts : Bool
  pub jump : JumpChange
  -- how many words, or digests, it takes from each input
  pub publics : ℕ
  pub secrets : ℕ
  pub digests : ℕ
  pub output : List ℕ
  pub sponge : SpongeChange
  pub calls : List Call

-- ---- effects that take n words off, put these on and go on to the next instruction; what they do not name stays

-- takes so many public words, secret words and secret digests, and has these calls
abbrev pub drawing : ℕ → ℕ → ℕ → List Call → ℕ → List ℕ → Effect
drawing p s d cs n ws =
    record { pops = n; words = ws; next = onward; halts = false; jump = stays; publics = p; secrets = s; digests = d; output = []; sponge = keeps; calls = cs }

-- has these calls
abbrev pub recording : List Call → ℕ → List ℕ → Effect
recording cs n ws = drawing 0 0 0 cs n ws

-- has no call
abbrev pub puts : ℕ → List ℕ → Effect
puts n ws = recording [] n ws

-- changes the sponge, and has these calls
abbrev pub sponging : SpongeChange → List Call → ℕ → List ℕ → Effect
sponging s cs n ws =
    record { pops = n; words = ws; next = onward; halts = false; jump = stays; publics = 0; secrets = 0; digests = 0; output = []; sponge = s; calls = cs }

-- ---- effects that take n words off and put none on; what they do not name stays

-- puts these words out, and goes on
abbrev pub writing : ℕ → List ℕ → Effect
writing n out =
    record { pops = n; words = []; next = onward; halts = false; jump = stays; publics = 0; secrets = 0; digests = 0; output = out; sponge = keeps; calls = [] }

-- goes there, with this change of the jump stack
abbrev pub goes : ℕ → Next → JumpChange → Effect
goes n next jump =
    record { pops = n; words = []; next = next; halts = false; jump = jump; publics = 0; secrets = 0; digests = 0; output = []; sponge = keeps; calls = [] }

-- ---- what comes of an instruction

pub data Decision : Type 0 where
  acts : Effect → Decision
  -- everything stays
  refuses : Refusal → Decision
  -- everything stays but the top word of the op stack, which is dropped
  drops : Refusal → Decision

-- goes on where the word is a u32
abbrev pub u32_only : ℕ → Decision → Decision
u32_only w d = cond (ltb w (2 ^ 32)) d (refuses (failed_u32_conversion w))

-- turns down where the test is true
abbrev pub unless : Bool → Refusal → Decision → Decision
unless t r d = cond t (refuses r) d
