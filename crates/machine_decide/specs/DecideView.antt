-- What the code that decides relies on, and which of its two ways an instruction takes.
use Rattle.std.specs.Prelude.{ℕ, ◌-◌, ◌<◌, ◌≡◌, Bool, true, false, List, [], ◌∷◌, length, get_or, eqb, ltb, Result}
use Rattle.field.specs.Base.{p}
use Rattle.tip5.specs.declared.sponge.Sponge.{Sponge}
use Rattle.machine_effects.specs.declared.effect.Effect.{Effect}
use Rattle.machine_effects.specs.declared.effect.Refused.{Refused}
use Rattle.machine_hashing.specs.declared.hashing.Hashed.{Hashed}
use Rattle.machine_decide.specs.declared.handed.Handed.{Handed}
use Rattle.machine_decide.specs.declared.handed.HandedHash.{HandedHash}
use Rattle.choices.specs.Choice.{cond}
use Rattle.machine.specs.Words.{Words}
use Rattle.machine_ram.specs.LentCells.{cells_of}
use Rattle.machine.specs.Refusal.{plainly}
use Rattle.machine.specs.Instruction.{Decoded, known, unknown, decode}
use Rattle.machine.specs.Machine.{Machine, machine, code, memory, JumpTop, empty, entry, ram, jump_top, public_left, secret_left, digests_left}
use Rattle.machine.specs.Machine as M
use Rattle.machine.specs.Effect.{Decision, refuses}
use Rattle.machine_effects.specs.EffectView.{decision_of, jump_top_of}
use Rattle.machine_hashing.specs.HashedView.{hashed_of}
use Rattle.machine.specs.PlaceA.{argument4}
use Rattle.machine.specs.Decide.{effect_of, opcode_of, argument_of}
use Rattle.machine.specs.Sound.{Sound}

-- what the slot's instruction does
abbrev pub act_in : Decoded → ℕ → Machine → Decision
act_in unknown n m = refuses (plainly 3)
act_in (known r) n m = effect_of r.instruction n m

-- whether a number is in a list
abbrev pub is_one : ℕ → List ℕ → Bool
is_one x [] = false
is_one x (k ∷ ks) = cond (eqb x k) true (is_one x ks)

-- the instructions whose effects carry a trace or change the sponge
unfoldable pub hashes : ℕ → Bool
hashes op = is_one op (18 ∷ 34 ∷ 36 ∷ 40 ∷ 44 ∷ 48 ∷ 56 ∷ [])

-- ---- what an instruction is handed

-- machines that are alike to an instruction that does not hash, and to one that does
abbrev pub plain_alike : Machine → List ℕ → List ℕ → Machine
plain_alike m digests output =
    machine m.state (code m.code.opcodes m.code.arguments m.code.public m.code.secret digests) (memory m.memory.op_stack m.memory.origins m.memory.destinations m.memory.addresses m.memory.values output)

abbrev pub hash_alike : Machine → List ℕ → List ℕ → List ℕ → List ℕ → List ℕ → List ℕ → Machine
hash_alike m arguments public secret origins destinations output =
    machine m.state (code m.code.opcodes arguments public secret m.code.digests) (memory m.memory.op_stack origins destinations m.memory.addresses m.memory.values output)

-- a sound machine stands on a slot; what no instruction looks at that does not hash may be anything
pub record StandsOn (m : Machine) : Type 0 where
  pub digests : List ℕ
  pub output : List ℕ
  pub sound : Sound (plain_alike m digests output)
  pub inside : m.state.pointer < length m.code.opcodes

-- and what none looks at that hashes
pub record HashesOn (m : Machine) : Type 0 where
  pub arguments : List ℕ
  pub public : List ℕ
  pub secret : List ℕ
  pub origins : List ℕ
  pub destinations : List ℕ
  pub output : List ℕ
  pub sound : Sound (hash_alike m arguments public secret origins destinations output)
  pub inside : m.state.pointer < length m.code.opcodes

-- the last of n entries of a jump stack
abbrev pub last_of : List ℕ → List ℕ → ℕ → JumpTop
last_of from to n = cond (ltb 0 n) (entry (get_or from (n - 1) 0) (get_or to (n - 1) 0)) empty

-- it can be relied on; of RAM this stands in its type
pub record Reliable (h : Handed) : Type 0 where
  pub words : Words h.top.words
  pub inside : h.pointer < length h.opcodes.now
  pub pointer : h.pointer < p
  pub argument : h.argument < p
  pub allowed : argument4 (decode h.opcode) h.argument ≡ 0

-- it is what stands in the machine's slot
pub record InSlot (m : Machine) (h : Handed) : Type 0 where
  pub opcode : opcode_of m ≡ h.opcode
  pub argument : argument_of m ≡ h.argument

-- and what the machine shows besides
pub record Shows (m : Machine) (h : Handed) : Type 0 where
  pub top : M.top m ≡ h.top.words
  pub pointer : m.state.pointer ≡ h.pointer
  pub opcodes : m.code.opcodes ≡ h.opcodes.now
  pub public : public_left m ≡ h.public.now
  pub secret : secret_left m ≡ h.secret.now
  pub jump : jump_top m ≡ jump_top_of h.jump
  pub cells : ram m ≡ cells_of h.ram

pub record ShowsHash (m : Machine) (h : HandedHash) : Type 0 where
  pub top : M.top m ≡ h.top.words
  pub digests : digests_left m ≡ h.digests.now
  pub cells : ram m ≡ cells_of h.ram

-- ---- what it decides

pub record Acted (h : Handed) (r : Result Effect Refused) : Type 0 where
  pub is : (m : Machine) → Shows m h → decision_of r ≡ act_in (decode h.opcode) h.argument m

-- with a trace or the sponge, whatever the argument is
pub record ActedHash (h : HandedHash) (s : Sponge) (r : Result Hashed Refused) : Type 0 where
  pub is : (n : ℕ) (m : Machine) → ShowsHash m h → m.state.sponge ≡ s → hashed_of r ≡ act_in (decode h.opcode) n m

-- the same of a machine and all that are alike
pub record DecidedPlain (m : Machine) (r : Result Effect Refused) : Type 0 where
  pub is : (digests output : List ℕ) → decision_of r ≡ act_in (decode (opcode_of m)) (argument_of m) (plain_alike m digests output)

pub record DecidedHash (m : Machine) (r : Result Hashed Refused) : Type 0 where
  pub is : (n : ℕ) (arguments public secret origins destinations output : List ℕ) →
      hashed_of r ≡ act_in (decode (opcode_of m)) n (hash_alike m arguments public secret origins destinations output)
