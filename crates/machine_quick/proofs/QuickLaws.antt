-- Laws of a quick step: what an effect makes of the machine that changes the op stack and the pointer alone. Assumes nothing.
use mathlib.Core.Path.{◌≡◌, refl, sym, ap, ◌∙◌}
use mathlib.Core.Bool.{Bool, true, false, true≢false}
use mathlib.Core.List.{List, []}
use Prim.Native.Nat.{ℕ, ◌+◌, ◌-◌, ◌≤◌, ◌<◌}
use native.Mathlib.Omega.{arith}
use native.Mathlib.Nat.{add-zero}
use borrow.Author.Tests.{eq-eqb, eqb-true}
use lib.ListN.{length, take}
use lib.Seq.{paste-zero, length-take-le}
use lib.Dec.{eqb}
use Rattle.std.specs.Prelude.{Result, Ok, Err, Option, Some, None}
use Rattle.machine.specs.declared.state.VMState.{VMState}
use Rattle.machine_effects.specs.declared.effect.Effect.{Effect as CodeEffect}
use Rattle.machine_effects.specs.declared.effect.Refused.{Refused}
use Rattle.choices.specs.Choice.{first_of, above_of}
use Rattle.machine.specs.Instruction.{decode, size_of}
use Rattle.machine.specs.Machine.{Memory, Machine, machine, memory}
use Rattle.machine.specs.Effect.{Next, stays, keeps, Effect, acts}
use Rattle.machine_isa.specs.FewWords.{words_of}
use Rattle.machine_effects.specs.EffectView.{next_of, effect_of, decision_of}
use Rattle.machine_effects.proofs.MemoryView.{no-accesses}
use Rattle.machine.specs.Decide.{opcode_of, argument_of, decide_of}
use Rattle.machine.specs.Apply.{took, touched, applied_stack, pointer_after, performed, limits_of, settled}
use Rattle.machine.specs.Records.{call_records, stack_records}
use Rattle.machine.specs.Step.{records_in, outcome_by}
use Rattle.machine.specs.Sound.{Sound}
use Rattle.choices.proofs.Choice.{first_zero, above-not}
use Rattle.machine.proofs.Facts.{facts}
use Rattle.machine_log.proofs.Logged.{records_after}
use Rattle.machine_quick.specs.declared.quick.QuickStep.{QuickStep}
use Rattle.machine_decide.specs.declared.handed.Handed.{Handed}
use Rattle.machine_decide.specs.DecideView.{act_in, plain_alike, StandsOn, InSlot, Shows}
use Rattle.machine_decide.proofs.DecideLaws.{shows_alike}
use Rattle.machine_decide.specs.PlaceBView.{place_b}
use Rattle.machine_quick.specs.QuickView.{ActedQuick, with_stack, Still, Shift, Changing, Changed, onward_as, onward_to, Walking, StepsTo, Quicked}
use Rattle.machine_step.proofs.AdvanceLaws.{pointer_is}
use Rattle.machine_decide.proofs.PlaceBLaws.{b_passes}

-- ---- an effect that changes the op stack and the pointer alone

abbrev moving : ℕ → List ℕ → Next → Effect
moving n ws q =
    record { pops = n; words = ws; next = q; halts = false; jump = stays; publics = 0; secrets = 0; digests = 0; output = []; sponge = keeps; calls = [] }

still_effect : (e : CodeEffect) → Still e → effect_of e ≡ moving e.pops (words_of e.words) (next_of e.next)
unfolding effect_of
still_effect e s = rw (s.halts, s.jump, s.publics, s.secrets, s.digests, s.output, s.u32s, no-accesses e.accesses s.accesses)

first-not : {a b : ℕ} → a ≡ 0 → b ≡ 0 → first_of a b ≡ 0
first-not {a} {b} x y = first_zero a b x ∙ y

module _ (m : Machine) (n : ℕ) (ws : List ℕ) (q : Next) (sound : Sound m) where
  moving_limits : m.state.depth - n + length ws ≤ length m.memory.op_stack → m.state.clock ≤ 4294967294 → limits_of m (moving n ws q) ≡ 0
  unfolding limits_of touched
  moving_limits d k =
      first-not (above-not _ _ 30 d)
      (first-not (above-not _ _ 31 sound.origins.used)
      (first-not (above-not _ _ 32 sound.cells.used)
      (first-not (above-not _ _ 33 (omega (arith, sound.outputs))) (above-not _ _ 34 k))))

  moving-performed : (r : QuickStep) (w : List ℕ) → m.state.halted ≡ false → r.pointer ≡ pointer_after m q → r.depth ≡ m.state.depth - n + length ws →
      w ≡ applied_stack m.memory.op_stack m.state.depth n ws →
      machine (onward_to m.state r) m.code (memory w m.memory.origins m.memory.destinations m.memory.addresses m.memory.values m.memory.output) ≡ performed m (moving n ws q)
  unfolding performed touched
  moving-performed r w h e f g =
      ap (λ (t : Bool). machine (onward_as m.state r t) m.code (memory w m.memory.origins m.memory.destinations m.memory.addresses m.memory.values m.memory.output)) h
      ∙ rw (← paste-zero m.memory.output m.state.outputs [], e, f, g, add-zero m.state.outputs, add-zero m.state.publics, add-zero m.state.secrets, add-zero m.state.digests)

  moving_records : (w : List ℕ) (d : ℕ) → decide_of m ≡ acts (moving n ws q) → m.state.depth - n + length ws ≤ length m.memory.op_stack → d ≡ m.state.depth - n + length ws →
      w ≡ applied_stack m.memory.op_stack m.state.depth n ws → records_in m (decide_of m) ≡ stack_records m.state.clock w w m.state.depth d
  unfolding call_records
  moving_records w d x l f g =
      let k = facts m sound (moving n ws q) x in
      rw (x, f, g) (sym (records_after m (moving n ws q) sound.deep k.pops sound.op_stack.used (omega (arith, k.deep, k.pops, sound.deep)) l))

-- where such an effect is decided and has room, it is the step
pub shifts : (m : Machine) (e : CodeEffect) (r : QuickStep) (w : List ℕ) → Sound m → m.state.halted ≡ false → decide_of m ≡ acts (effect_of e) → Shift m.state e (opcode_of m) m.memory.op_stack r w →
    StepsTo m r (memory w m.memory.origins m.memory.destinations m.memory.addresses m.memory.values m.memory.output)
unfolding outcome_by settled
shifts m e r w sound on d s =
    let ws = words_of e.words in
    let E = moving e.pops ws (next_of e.next) in
    let k : length ws ≡ e.words.count = length-take-le e.words.count e.words.words e.words.fits in
    let x : decide_of m ≡ acts E = d ∙ ap acts (still_effect e s.still) in
    let room : m.state.depth - e.pops + length ws ≤ length m.memory.op_stack = omega (arith, k, s.depth, s.deeper) in
    let deep : r.depth ≡ m.state.depth - e.pops + length ws = omega (arith, k, s.depth) in
    let l : limits_of m E ≡ 0 = moving_limits m e.pops ws (next_of e.next) sound room s.clock in
    let y = moving-performed m e.pops ws (next_of e.next) sound r w on (s.pointer ∙ pointer_is m (next_of e.next)) deep s.stack in
    record { rest = refl; outcome = rw (x, eq-eqb (limits_of m E) 0 l, y); records = moving_records m e.pops ws (next_of e.next) sound w r.depth x room deep s.stack }

-- ---- what the code relies on

pub refused-not : {x : Refused} {e : CodeEffect} → ◌≡◌ {A = Result CodeEffect Refused} (Err x) (Ok e) → ⊥
refused-not h = let z : ◌≡◌ {A = ℕ} 0 1 = cc in absurd (omega arith)

module _ {m : Machine} (h : Walking m) (is : 0 ≡ place_b m.state m.code.opcodes m.code.arguments) where
  abbrev alike : Machine
  alike = plain_alike m h.digests h.output

  pub quick_stands : StandsOn m
  quick_stands = record { digests = h.digests; output = h.output; sound = h.sound; inside = (b_passes alike h.sound.deep is refl).0 }

  module _ {x : Handed} {e : CodeEffect} {r : Result CodeEffect Refused} (i : InSlot m x) (s : Shows m x) (k : ActedQuick x r) (t : r ≡ Ok e) where
    quick_decides : (digests output : List ℕ) → Sound (plain_alike m digests output) → decide_of (plain_alike m digests output) ≡ acts (effect_of e)
    unfolding decision_of
    quick_decides digests output sound =
        let y = plain_alike m digests output in
        (b_passes y sound.deep is refl).1 ∙ (rw (i.opcode, i.argument) (sym ((k.is e t).is y (shows_alike m x digests output s)))) ∙ ap decision_of t

    pub quick_changing : Changing m.state e m.memory.op_stack
    unfolding effect_of
    quick_changing =
        let f = facts alike h.sound (effect_of e) (quick_decides h.digests h.output h.sound) in
        record {
          pops = omega (arith, f.pops, h.sound.deep);
          grows = omega (arith, f.grows, length-take-le e.words.count e.words.words e.words.fits);
          depth = h.sound.op_stack.used;
          few = h.sound.op_stack.few;
          pointer = omega (arith, quick_stands.inside, h.sound.code.slots_few);
        }

    pub quick_done : (q : Option QuickStep) (w : List ℕ) → Changed m.state e (opcode_of m) m.memory.op_stack q w → Quicked m q (with_stack m.memory w)
    quick_done (Some q) w g =
        record { rest = refl; steps = λ digests output sound. shifts (plain_alike m digests output) e q w sound h.on (quick_decides digests output sound) g }
    quick_done None w g = ap (with_stack m.memory) g

-- ---- memory slice by slice: it shows no output

abbrev bare : Machine → Machine
bare m = machine m.state m.code (memory m.memory.op_stack m.memory.origins m.memory.destinations m.memory.addresses m.memory.values [])

pub walks_bare : {m : Machine} → Walking m → Walking (bare m)
walks_bare h = record { digests = h.digests; output = h.output; sound = h.sound; on = h.on }

abbrev with_output : Memory → List ℕ → Memory
with_output n x = memory n.op_stack n.origins n.destinations n.addresses n.values x

pub quick_lent : (m : Machine) (r : Option QuickStep) (n : Memory) → Quicked (bare m) r n → Quicked m r (with_output n m.memory.output)
quick_lent m (Some r) n k = record { rest = ap (λ (y : Memory). with_output y m.memory.output) k.rest; steps = k.steps }
quick_lent m None n k = ap (λ (y : Memory). with_output y m.memory.output) k
