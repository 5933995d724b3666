-- What the code of place D and of an effect's performance relies on and promises.
use Rattle.std.specs.Prelude.{ℕ, zero, suc, ◌+◌, ◌-◌, ◌≤◌, ◌≡◌, Bool, true, false, List, [], length, get_or, eqb, Result}
use Rattle.tip5.specs.declared.sponge.Sponge.{Sponge}
use Rattle.machine.specs.declared.state.VMState.{VMState}
use Rattle.machine.specs.declared.refusal.PlaceD.{PlaceD}
use Rattle.machine.specs.Refusal.{found_d}
use Rattle.machine_effects.specs.declared.effect.Effect.{Effect as CodeEffect}
use Rattle.machine_effects.specs.declared.effect.Access.{Access}
use Rattle.machine_effects.specs.declared.effect.Accesses.{Accesses}
use Rattle.machine_effects.specs.declared.effect.Direction.TheVariants.{Write}
use Rattle.machine_isa.specs.FewWords.{words_of}
use Rattle.choices.specs.Choice.{cond}
use Rattle.machine.specs.Ram.{Cells, cells, has}
use Rattle.machine_ram.specs.RamView.{Ordered}
use Rattle.machine.specs.Machine.{Code, Memory, machine, memory}
use Rattle.machine_effects.specs.EffectView.{effect_of, jump_of, accesses_of, first_accesses}
use Rattle.machine.specs.Apply.{touched, jumps_after, limits_of, performed_at, dropped}
use Rattle.machine.specs.PlaceA.{longest}

-- ---- RAM: how many cells a row of writes adds, where there is room for them

-- what stands behind the last
abbrev pub no_access : Access
no_access = record { address = 0; value = 0 }

abbrev pub address_at : List Access → ℕ → ℕ
address_at w k = (get_or w k no_access).address

-- whether the address a is one of the first n
unfoldable pub among_of : List Access → ℕ → ℕ → Bool
among_of w zero a = false
among_of w (suc n) a = cond (eqb (address_at w n) a) true (among_of w n a)

-- whether it has a cell among the first n; what they hold does not matter
unfoldable pub has_in : List ℕ → ℕ → ℕ → Bool
has_in s n a = has (cells n s []) a

-- 1 where write k adds a cell
unfoldable pub new_of : List ℕ → ℕ → List Access → ℕ → ℕ
new_of s n w k = cond (among_of w k (address_at w k)) 0 (cond (has_in s n (address_at w k)) 0 1)

unfoldable pub fresh_of : List ℕ → ℕ → List Access → ℕ → ℕ
fresh_of s n w zero = 0
fresh_of s n w (suc k) = fresh_of s n w k + new_of s n w k

-- ---- place D

-- what a sound machine shows
pub record Fit (s : VMState) (e : CodeEffect) (m : Memory) : Type 0 where
  pub pops : e.pops ≤ s.depth
  pub depth : s.depth ≤ length m.op_stack
  pub stack_few : length m.op_stack ≤ longest
  pub jumps : s.jumps ≤ length m.origins
  pub jumps_few : length m.origins ≤ longest
  pub ordered : Ordered m.addresses s.cells
  pub pair : length m.addresses ≡ length m.values
  pub cells_few : length m.addresses ≤ longest
  pub written : s.outputs ≤ length m.output
  pub output_few : length m.output ≤ longest

-- the number, whatever the program and the inputs are
pub record Limited (s : VMState) (e : CodeEffect) (m : Memory) (r : Result (Unit {0}) PlaceD) : Type 0 where
  pub is : (c : Code) → found_d r ≡ limits_of (machine s c m) (effect_of e)

-- ---- performance

-- a row of writes that has room
pub record WritesRow (c : Cells) (w : List Access) : Type 0 where
  pub ordered : Ordered c.addresses c.count
  pub pair : length c.addresses ≡ length c.values
  pub fits : (touched c (first_accesses Write w (length w))).count ≤ length c.addresses

-- accesses that have room
pub record Writes (c : Cells) (a : Accesses) : Type 0 where
  pub ordered : Ordered c.addresses c.count
  pub pair : length c.addresses ≡ length c.values
  pub fits : (touched c (accesses_of a)).count ≤ length c.addresses

-- positions that do not overflow
pub record Moves (s : VMState) (e : CodeEffect) : Type 0 where
  pub pops : e.pops ≤ s.depth
  pub depth : s.depth ≤ longest
  pub jumps : s.jumps ≤ longest
  pub outputs : s.outputs ≤ longest
  pub publics : s.publics + e.publics ≤ longest
  pub secrets : s.secrets + e.secrets ≤ longest
  pub digests : s.digests + e.digests ≤ longest
  pub clock : s.clock ≤ 4294967294

-- the registers after an effect, with this pointer and sponge and so many cells
abbrev pub moved_to : VMState → CodeEffect → ℕ → Sponge → ℕ → VMState
moved_to s e q sponge n =
    record {
      clock = s.clock + 1;
      pointer = q;
      depth = s.depth - e.pops + length (words_of e.words);
      jumps = jumps_after s.jumps (jump_of e.jump);
      cells = n;
      outputs = s.outputs + length (words_of e.output);
      publics = s.publics + e.publics;
      secrets = s.secrets + e.secrets;
      digests = s.digests + e.digests;
      sponge = sponge;
      halted = e.halts;
      revision = s.revision;
    }

-- there is room for the effect
pub record Ready (s : VMState) (e : CodeEffect) (m : Memory) : Type 0 where
  pub moves : Moves s e
  pub depth : s.depth ≤ length m.op_stack
  pub deeper : s.depth - e.pops + length (words_of e.words) ≤ length m.op_stack
  pub writes : Writes (cells s.cells m.addresses m.values) e.accesses
  pub output : s.outputs + length (words_of e.output) ≤ length m.output

pub record Performed (s : VMState) (e : CodeEffect) (q : ℕ) (sponge : Sponge) (m : Memory) (r : VMState) (n : Memory) : Type 0 where
  pub is : (c : Code) → machine r c n ≡ performed_at (machine s c m) (effect_of e) q sponge

-- all slices but the op stack stay
pub record Dropped (s : VMState) (stack : List ℕ) (r : VMState) (after : List ℕ) : Type 0 where
  pub is : (c : Code) (o d a v w : List ℕ) → machine r c (memory after o d a v w) ≡ dropped (machine s c (memory stack o d a v w))
