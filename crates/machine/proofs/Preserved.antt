-- A step leaves a sound machine: what it takes, where its effect has the facts and place D finds room, and also skiz refused
-- with its word dropped. Assumes nothing.
use mathlib.Core.Path.{◌≡◌, refl, sym, ◌∙◌}
use mathlib.Core.Bool.{Bool, true, false}
use mathlib.Core.List.{List}
use Prim.Native.Nat.{ℕ, ◌+◌, ◌-◌, ◌≤◌, ◌<◌}
use native.Mathlib.Omega.{arith}
use borrow.Author.Tests.{eqb-true, eqb-false, ltb-true, ltb-false}
use lib.ListN.{length, get_or, set, length-set, get_or-eq_default}
use lib.Seq.{get_or-set_same, get_or-set_other, set_out}
use lib.Dec.{eqb, ltb, lit<}
use Rattle.field.specs.Base.{p}
use Rattle.machine.specs.Machine.{Machine}
use Rattle.machine.specs.Effect.{Effect, JumpChange, stays, pushes, pops}
use Rattle.machine.specs.Apply.{depth_after, jumps_after, origins_after, destinations_after, ram_after, performed, dropped, limits_of}
use Rattle.machine.specs.Sound.{SoundStack, Sound, HonestJump, staying, popping, pushing, Facts}
use Rattle.choices.proofs.Choice.{first-nil, above-nil}
use Rattle.machine.proofs.Words.{words-set}
use Rattle.machine.proofs.Touched.{touched-sound}
use Rattle.machine.proofs.OpStack.{put-length, applied_sound}

-- ---- place D finds room

pub record Fits (m : Machine) (e : Effect) : Type 0 where
  pub depth : depth_after m e ≤ length m.memory.op_stack
  pub jumps : jumps_after m.state.jumps e.jump ≤ length m.memory.origins
  pub cells : (ram_after m e).count ≤ length m.memory.addresses
  pub output : m.state.outputs + length e.output ≤ length m.memory.output
  pub clock : m.state.clock ≤ 4294967294

pub limits_fit : (m : Machine) (e : Effect) → limits_of m e ≡ 0 → Fits m e
unfolding limits_of
limits_fit m e h =
    let a = first-nil _ _ h in
    let b = first-nil _ _ a.1 in
    let c = first-nil _ _ b.1 in
    let d = first-nil _ _ c.1 in
    record {
      depth = above-nil _ _ 30 (omega arith) a.0;
      jumps = above-nil _ _ 31 (omega arith) b.0;
      cells = above-nil _ _ 32 (omega arith) c.0;
      output = above-nil _ _ 33 (omega arith) d.0;
      clock = above-nil _ _ 34 (omega arith) d.1;
    }

-- ---- stacks

-- a word made 0 is 0, also where the list does not have it
set_zero : (s : List ℕ) (i : ℕ) → get_or (set s i 0) i 0 ≡ 0
set_zero s i = go (ltb i (length s)) refl
  where
    go : (t : Bool) → ltb i (length s) ≡ t → get_or (set s i 0) i 0 ≡ 0
    go true e = get_or-set_same s i 0 0 (ltb-true i (length s) e)
    go false e =
        let l : length s ≤ i = ltb-false i (length s) e in
        rw (set_out s i 0 l) (get_or-eq_default s 0 l)

-- the top word made 0
pub pop-sound : (s : List ℕ) (n : ℕ) → SoundStack s n → SoundStack (set s (n - 1) 0) (n - 1)
pop-sound s n h =
    let e = length-set s (n - 1) 0 in
    record {
      few = rw e h.few;
      used = rw e (omega arith);
      words = words-set (n - 1) 0 (lit< tt) h.words;
      rest = λ i l. go i (eqb i (n - 1)) refl l;
    }
  where
    go : (i : ℕ) (t : Bool) → eqb i (n - 1) ≡ t → n - 1 ≤ i → get_or (set s (n - 1) 0) i 0 ≡ 0
    go i true e l = rw (eqb-true i (n - 1) e) (set_zero s (n - 1))
    go i false e l =
        let d : i ≡ n - 1 → ⊥ = eqb-false i (n - 1) e in
        get_or-set_other s (n - 1) i 0 0 d ∙ h.rest i (omega arith)

-- a word put on top
pub push-sound : (s : List ℕ) (n v : ℕ) → v < p → n + 1 ≤ length s → SoundStack s n → SoundStack (set s n v) (n + 1)
push-sound s n v k r h =
    let e = length-set s n v in
    record {
      few = rw e h.few;
      used = rw e r;
      words = words-set n v k h.words;
      rest = λ i l. get_or-set_other s n i v 0 (λ (d : i ≡ n). omega arith) ∙ h.rest i (omega arith);
    }

origins_sound : {j : JumpChange} (s : List ℕ) (n : ℕ) → HonestJump j → jumps_after n j ≤ length s → SoundStack s n → SoundStack (origins_after s n j) (jumps_after n j)
origins_sound s n staying r h = h
origins_sound s n popping r h = pop-sound s n h
origins_sound s n (pushing {o = o} a b) r h = push-sound s n o a r h

destinations_sound : {j : JumpChange} (s : List ℕ) (n : ℕ) → HonestJump j → jumps_after n j ≤ length s → SoundStack s n → SoundStack (destinations_after s n j) (jumps_after n j)
destinations_sound s n staying r h = h
destinations_sound s n popping r h = pop-sound s n h
destinations_sound s n (pushing {d = d} a b) r h = push-sound s n d b r h

origins_length : (s : List ℕ) (n : ℕ) (j : JumpChange) → length (origins_after s n j) ≡ length s
origins_length s n stays = refl
origins_length s n (pushes o d) = length-set s n o
origins_length s n pops = length-set s (n - 1) 0

destinations_length : (s : List ℕ) (n : ℕ) (j : JumpChange) → length (destinations_after s n j) ≡ length s
destinations_length s n stays = refl
destinations_length s n (pushes o d) = length-set s n d
destinations_length s n pops = length-set s (n - 1) 0

-- ---- the machine

pub performed-sound : (m : Machine) (e : Effect) → Sound m → Facts m e → limits_of m e ≡ 0 → Sound (performed m e)
unfolding performed
performed-sound m e s f l =
    let g = limits_fit m e l in
    let out = put-length m.memory.output e.output m.state.outputs g.output in
    let jo = origins_length m.memory.origins m.state.jumps e.jump in
    let jd = destinations_length m.memory.destinations m.state.jumps e.jump in
    record {
      code = s.code;
      deep = omega (arith, f.pops, f.deep, s.deep);
      op_stack = applied_sound m.memory.op_stack e.words m.state.depth e.pops (omega (arith, f.pops, s.deep)) g.depth f.words s.op_stack;
      origins = origins_sound m.memory.origins m.state.jumps f.jump g.jumps s.origins;
      destinations = destinations_sound m.memory.destinations m.state.jumps f.jump (rw (← s.paired) g.jumps) s.destinations;
      paired = jo ∙ s.paired ∙ sym jd;
      cells = touched-sound f.calls g.cells s.cells;
      output_few = rw out s.output_few;
      outputs = rw out g.output;
      publics = f.publics;
      secrets = f.secrets;
      digests = f.digests;
      sponge = f.sponge;
      pointer = f.next;
      clock = omega (arith, g.clock);
      revision = s.revision;
    }

pub dropped-sound : (m : Machine) → Sound m → 17 ≤ m.state.depth → Sound (dropped m)
unfolding dropped
dropped-sound m s h = record {
  code = s.code;
  deep = omega arith;
  op_stack = pop-sound m.memory.op_stack m.state.depth s.op_stack;
  origins = s.origins;
  destinations = s.destinations;
  paired = s.paired;
  cells = s.cells;
  output_few = s.output_few;
  outputs = s.outputs;
  publics = s.publics;
  secrets = s.secrets;
  digests = s.digests;
  sponge = s.sponge;
  pointer = s.pointer;
  clock = s.clock;
  revision = s.revision;
}

-- the clock after a step
pub performed_clock : (m : Machine) (e : Effect) → (performed m e).state.clock ≡ m.state.clock + 1
unfolding performed
performed_clock m e = refl

-- and the revision of the log, which no step changes
pub performed_revision : (m : Machine) (e : Effect) → (performed m e).state.revision ≡ m.state.revision
unfolding performed
performed_revision m e = refl
