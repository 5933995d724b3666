-- Laws of a step behind place A. Assumes nothing.
use mathlib.Core.Path.{◌≡◌, refl, sym, ap, subst, ◌∙◌}
use mathlib.Core.Bool.{Bool, true, false, true≢false}
use mathlib.Core.List.{List, [], ◌∷◌, ◌++◌}
use Prim.Native.Nat.{ℕ, ◌+◌, ◌≤◌, ◌<◌}
use native.Mathlib.Omega.{arith}
use borrow.Author.Tests.{eqb-true}
use lib.ListN.{length}
use lib.Dec.{eqb}
use Rattle.std.specs.Prelude.{Result, Ok, Err}
use Rattle.tip5.specs.declared.sponge.Sponge.{Sponge}
use Rattle.machine.specs.declared.state.VMState.{VMState}
use Rattle.machine.specs.declared.refusal.InstructionError.{InstructionError}
use Rattle.machine.specs.declared.refusal.InstructionError.TheVariants.{Before}
use Rattle.machine.specs.declared.refusal.PlaceB.{PlaceB}
use Rattle.machine.proofs.Refused.{number_b_some}
use Rattle.machine_effects.specs.declared.effect.Effect.{Effect as CodeEffect}
use Rattle.machine_effects.specs.declared.effect.Refused.{Refused}
use Rattle.machine_effects.specs.declared.effect.Refused.TheVariants.{Kept, Dropped}
use Rattle.machine_hashing.specs.declared.hashing.Hashed.{Hashed}
use Rattle.machine_log.specs.declared.calls.Besides.{Besides}
use Rattle.machine_log.specs.declared.calls.Besides.TheVariants.{Nothing, Reset, First, Last}
use Rattle.choices.specs.Choice.{cond}
use Rattle.machine.specs.Lengths.{most_bytes}
use Rattle.machine.specs.Refusal.{Refusal, number_b, refusal_of, plainly}
use Rattle.machine.specs.Machine.{Memory, memory, Machine, machine}
use Rattle.machine.specs.Instruction.{decode, size_of}
use Rattle.machine.specs.Effect.{Call, Next, onward, to, tip5, keeps, Effect, Decision, acts, refuses, drops}
use Rattle.machine_effects.specs.EffectView.{next_of, calls_of, effect_of, decision_of}
use Rattle.machine_hashing.specs.HashedView.{with_sponge, sponge_change, hashed_effect, hashed_of}
use Rattle.machine.specs.Decide.{opcode_of, argument_of, decide_of}
use Rattle.machine.specs.Apply.{Outcome, took, kept, lost, settled, performed, performed_at, limits_of, stack_after, depth_after, pointer_after, sponge_after}
use Rattle.machine.specs.Records.{Record, call_records, stack_records, records_of}
use Rattle.machine_log.specs.Logged.{call_bytes}
use Rattle.machine_log.specs.Beside.{with_besides, besides_bytes, LogRoom}
use Rattle.machine.specs.Sound.{Sound}
use Rattle.machine.proofs.Facts.{facts}
use Rattle.machine.proofs.Preserved.{limits_fit}
use Rattle.machine.proofs.OpStack.{applied_length}
use Rattle.machine_log.proofs.Logged.{records_after}
use Rattle.machine.proofs.Does.{call_sizes}
use Rattle.machine.proofs.StepBytes.{records_length, step-few}
use Rattle.machine_perform.specs.declared.answer.Stepped.{Stepped}
use Rattle.machine_perform.specs.PerformView.{Dropped as DroppedTo}
use Rattle.machine_perform.specs.AnswerView.{did, turned, answer_in, answered_by, Gives, settled_at, Settling}
use Rattle.machine_step.specs.RecordsView.{asked_of, Tells, Roomy, Recorded}
use Rattle.machine_step.specs.AdvanceView.{goes_from, RefusedBy, Acting, Standing, StandingOn, Advanced}
use Rattle.machine_decide.specs.DecideView.{act_in, hashes}
use Rattle.machine_decide.specs.PlaceBView.{place_b}
use Rattle.machine_perform.proofs.PerformLaws.{fit_of, ready_of, sizes_append, call-bytes, performed-plain, hashed_performs, hashed_limits}
use Rattle.machine_decide.proofs.PlaceBLaws.{b_passes, b_turns}

-- ---- a refused instruction

module _ {s : VMState} {x : Refused} {m : Memory} where
  pub refused-kept : {e : InstructionError} → x ≡ Kept e → RefusedBy s m x (record { answer = Err e; state = s; bytes = 0 }) m
  refused-kept {e} h = subst (λ (y : Refused). RefusedBy s m y (record { answer = Err e; state = s; bytes = 0 }) m) (sym h) (record { is = λ c. record { answer = refl; left = refl }; bytes = refl })

  pub refused-dropped : {e : InstructionError} {r : VMState} {after : List ℕ} → x ≡ Dropped e → DroppedTo s m.op_stack r after →
      RefusedBy s m x (record { answer = Err e; state = r; bytes = 0 }) (memory after m.origins m.destinations m.addresses m.values m.output)
  refused-dropped {e} {r} {after} h k =
      subst (λ (y : Refused). RefusedBy s m y (record { answer = Err e; state = r; bytes = 0 }) (memory after m.origins m.destinations m.addresses m.values m.output)) (sym h)
      (record { is = λ c. record { answer = refl; left = k.is c m.origins m.destinations m.addresses m.values m.output }; bytes = refl })

abbrev pub refused_as : Refused → Decision
refused_as (Kept r) = refuses (refusal_of r)
refused_as (Dropped r) = drops (refusal_of r)

pub refused_decision : (x : Refused) → decision_of (Err x) ≡ refused_as x
unfolding decision_of
refused_decision (Kept r) = refl
refused_decision (Dropped r) = refl

pub refused_hash : (x : Refused) → hashed_of (Err x) ≡ refused_as x
unfolding hashed_of
refused_hash (Kept r) = refl
refused_hash (Dropped r) = refl

pub refused_advanced : {t : Bool} {m : Machine} {b : List ℕ} {r : Stepped} {n : Memory} (x : Refused) → decide_of m ≡ refused_as x → RefusedBy m.state m.memory x r n → Advanced t m b r n b
unfolding settled
refused_advanced {m = m} (Kept e) d k = record { gives = rw d (k.is m.code); bytes = rw d k.bytes; buffer = rw d }
refused_advanced {m = m} (Dropped e) d k = record { gives = rw d (k.is m.code); bytes = rw d k.bytes; buffer = rw d }

-- ---- what comes of an effect

pub pointer_is : (m : Machine) (n : Next) → goes_from m.state.pointer (opcode_of m) n ≡ pointer_after m n
pointer_is m onward = refl
pointer_is m (to k) = refl

besides_sizes : (v : ℕ) (x : Besides) (cs : List Call) → call_sizes v (with_besides x cs) ≡ besides_bytes v x + call_sizes v cs
besides_sizes v Nothing cs = omega arith
besides_sizes v Reset cs = omega arith
besides_sizes v (First o t) cs = omega arith
besides_sizes v (Last o t) cs = omega (arith, sizes_append v cs (tip5 o t.now ∷ []))

own_sizes : (v : ℕ) (e : CodeEffect) → call_sizes v (calls_of e) ≡ call_bytes v e
unfolding effect_of
own_sizes v e = call-bytes v e

asked-did : (t : Bool) (a : Result (Unit {0}) InstructionError) → answer_in a ≡ did → asked_of t a ≡ t
asked-did t (Ok u) h = refl
asked-did t (Err r) h = let z : ◌≡◌ {A = ℕ} 0 1 = cc in absurd (omega arith)

asked-turned : (t : Bool) (a : Result (Unit {0}) InstructionError) (r : Refusal) → answer_in a ≡ turned r → asked_of t a ≡ false
asked-turned t (Ok u) r h = let z : ◌≡◌ {A = ℕ} 0 1 = cc in absurd (omega arith)
asked-turned t (Err x) r h = refl

-- a step that is taken, and one that is not
module _ {t : Bool} {m : Machine} {b b2 : List ℕ} {a : Result (Unit {0}) InstructionError} {x : VMState} {n : Memory} {k : ℕ} where
  taken : (e : Effect) (y : Machine) → decide_of m ≡ acts e → settled m (acts e) ≡ took y → Gives m (took y) a (machine x m.code n) → Recorded t m.state.revision b b2 (records_of m e) k →
      Advanced t m b (record { answer = a; state = x; bytes = k }) n b2
  taken e y d h g r = record { gives = rw (d, h) g; bytes = rw (d, h) r.bytes; buffer = rw (d, h) r.buffer }

  refused : {rs : List Record} (o : Outcome) (z : Refusal) → answered_by o ≡ turned z → settled m (decide_of m) ≡ o → Gives m o a (machine x m.code n) → Recorded false m.state.revision b b2 rs k →
      Advanced t m b (record { answer = a; state = x; bytes = k }) n b2
  refused (took y) z e h g r = let w : ◌≡◌ {A = ℕ} 0 1 = cc in absurd (omega arith)
  refused (kept y) z e h g r = record { gives = rw h g; bytes = rw h r.bytes; buffer = rw h r.buffer }
  refused (lost y w) z e h g r = record { gives = rw h g; bytes = rw h r.bytes; buffer = rw h r.buffer }

recorded_as : {t u : Bool} {v : ℕ} {b b2 : List ℕ} {rs us : List Record} {k : ℕ} → t ≡ u → rs ≡ us → Recorded t v b b2 rs k → Recorded u v b b2 us k
recorded_as {t} {u} {v} {b} {b2} {rs} {us} {k} e f r = subst (λ (x : Bool). Recorded x v b b2 us k) e (subst (λ (x : List Record). Recorded t v b b2 x k) f r)

-- the records that a step writes, by the stack after it alone
abbrev written : Machine → List Call → List ℕ → ℕ → List Record
written m cs stack after = call_records m.state.revision m.state.clock cs ++ stack_records m.state.clock stack stack m.state.depth after

module _ {t : Bool} {m : Machine} {e : CodeEffect} {s : Sponge} {x : Besides} {b : List ℕ} (h : Acting t m e s x b) where
  abbrev own : List Call
  own = with_besides x (calls_of e)

  abbrev whole : Effect
  whole = with_sponge (effect_of e) h.change own

  pub acting-settling : Settling m.state e m.memory
  unfolding effect_of limits_of
  acting-settling =
      let f = facts m h.standing.sound whole h.decides in
      record { fit = fit_of m e h.standing.sound f.pops; ready = λ o l. ready_of m e h.change own h.standing.sound f l }

  module _ (a : Result (Unit {0}) InstructionError) {y : VMState} {n : Memory} {asked : Bool} {q : ℕ} (to_q : q ≡ goes_from m.state.pointer (opcode_of m) (next_of e.next))
      (is_asked : asked ≡ asked_of t a) (g : Gives m (settled_at m (effect_of e) q s) a (machine y m.code n)) where
    performs_q : performed m whole ≡ performed_at m (effect_of e) q s
    performs_q = h.performs ∙ ap (λ (k : ℕ). performed_at m (effect_of e) k s) (sym (to_q ∙ pointer_is m (next_of e.next)))

    settled_q : settled m (acts whole) ≡ settled_at m (effect_of e) q s
    unfolding settled
    settled_q = rw (h.limits, performs_q)

    sizes : call_sizes m.state.revision own ≡ besides_bytes m.state.revision x + call_bytes m.state.revision e
    sizes = besides_sizes m.state.revision x (calls_of e) ∙ ap (λ (k : ℕ). besides_bytes m.state.revision x + k) (own_sizes m.state.revision e)

    log-room : limits_of m (effect_of e) ≡ 0 → machine y m.code n ≡ performed_at m (effect_of e) q s → t ≡ true → LogRoom m.state.revision x e n.op_stack b m.state.depth y.depth
    log-room z w u =
        let sound = h.standing.sound in
        let f = facts m sound whole h.decides in
        let l = limits_fit m whole (h.limits ∙ z) in
        let ps : n.op_stack ≡ stack_after m whole = ap (λ (k : Machine). k.memory.op_stack) w in
        let pd : y.depth ≡ depth_after m whole = ap (λ (k : Machine). k.state.depth) w in
        let len : length (stack_after m whole) ≡ length m.memory.op_stack = applied_length m.memory.op_stack whole.words m.state.depth whole.pops (omega (arith, f.pops, sound.deep)) sound.op_stack.used l.depth in
        rw (ps, pd)
        (record {
          deep = record {
            low = sound.deep;
            low2 = omega (arith, f.deep, f.pops, sound.deep);
            high = omega (arith, len, sound.op_stack.used);
            high2 = omega (arith, len, l.depth);
          };
          room = omega (arith, sizes, h.standing.room u, records_length m whole f.calls, step-few m sound whole h.decides);
        })

    pub acting-roomy : Roomy asked m.state.revision x e n.op_stack b m.state.depth y.depth
    acting-roomy = go (eqb (limits_of m (effect_of e)) 0) refl g
      where
        go : (z : Bool) → eqb (limits_of m (effect_of e)) 0 ≡ z → Gives m (cond z (took (performed_at m (effect_of e) q s)) (kept (plainly (limits_of m (effect_of e))))) a (machine y m.code n) →
            Roomy asked m.state.revision x e n.op_stack b m.state.depth y.depth
        go true z k = record { room = λ u. log-room (eqb-true (limits_of m (effect_of e)) 0 z) k.left (sym (is_asked ∙ asked-did t a k.answer) ∙ u) }
        go false z k = record { room = λ u. absurd (true≢false (sym u ∙ is_asked ∙ asked-turned t a (plainly (limits_of m (effect_of e))) k.answer)) }

    pub acting-advanced : {b2 : List ℕ} {k : ℕ} → Recorded asked m.state.revision b b2 (written m own n.op_stack y.depth) k → Advanced t m b (record { answer = a; state = y; bytes = k }) n b2
    acting-advanced {b2} {k} recorded = go (eqb (limits_of m (effect_of e)) 0) refl g settled_q
      where
        go : (z : Bool) → eqb (limits_of m (effect_of e)) 0 ≡ z → Gives m (cond z (took (performed_at m (effect_of e) q s)) (kept (plainly (limits_of m (effect_of e))))) a (machine y m.code n) →
            settled m (acts whole) ≡ cond z (took (performed_at m (effect_of e) q s)) (kept (plainly (limits_of m (effect_of e)))) →
            Advanced t m b (record { answer = a; state = y; bytes = k }) n b2
        go true z k2 w =
            let sound = h.standing.sound in
            let f = facts m sound whole h.decides in
            let l = limits_fit m whole (h.limits ∙ eqb-true (limits_of m (effect_of e)) 0 z) in
            let ps : n.op_stack ≡ stack_after m whole = ap (λ (j : Machine). j.memory.op_stack) k2.left in
            let pd : y.depth ≡ depth_after m whole = ap (λ (j : Machine). j.state.depth) k2.left in
            let rs : written m own n.op_stack y.depth ≡ records_of m whole =
            rw (ps, pd) (records_after m whole sound.deep f.pops sound.op_stack.used (omega (arith, f.deep, f.pops, sound.deep)) l.depth) in
            taken whole (performed_at m (effect_of e) q s) h.decides w k2 (recorded_as (is_asked ∙ asked-did t a k2.answer) rs recorded)
        go false z k2 w =
            refused (kept (plainly (limits_of m (effect_of e)))) (plainly (limits_of m (effect_of e))) refl (ap (settled m) h.decides ∙ w) k2
            (recorded_as (is_asked ∙ asked-turned t a (plainly (limits_of m (effect_of e))) k2.answer) refl recorded)

-- ---- the two ways of an instruction, with a trace or without

pub acting_plain : {t : Bool} {m : Machine} {b : List ℕ} → StandingOn false t m b → (e : CodeEffect) → decision_of (Ok e) ≡ act_in (decode (opcode_of m)) (argument_of m) m → Acting t m e m.state.sponge Nothing b
unfolding decision_of effect_of
acting_plain {m = m} h e d =
    record { standing = h.standing; inside = h.inside; change = keeps; decides = h.decides ∙ sym d; limits = refl; performs = performed-plain m e }

pub acting_hash : {t : Bool} {m : Machine} {b : List ℕ} {x : Besides} {s : Sponge} → StandingOn true t m b → (h : Hashed) → hashed_of (Ok h) ≡ act_in (decode (opcode_of m)) (argument_of m) m →
    Tells h.recorded x → s ≡ sponge_after m.state.sponge (sponge_change h.sponge) → Acting t m h.effect s x b
unfolding hashed_of effect_of
acting_hash {m = m} {x = x} z h d k l =
    let e = effect_of h.effect in
    let w : with_sponge e (sponge_change h.sponge) (with_besides x (calls_of h.effect)) ≡ hashed_effect h e = ap (λ (cs : List Call). with_sponge e (sponge_change h.sponge) cs) (k.is (calls_of h.effect)) in
    record {
      standing = z.standing;
      inside = z.inside;
      change = sponge_change h.sponge;
      decides = z.decides ∙ sym d ∙ ap acts (sym w);
      limits = ap (limits_of m) w ∙ hashed_limits m h e;
      performs = ap (performed m) w ∙ hashed_performs m h e ∙ ap (λ (y : Sponge). performed_at m e (pointer_after m (next_of h.effect.next)) y) (sym l);
    }

-- ---- place B

module _ {t : Bool} {m : Machine} {b : List ℕ} (h : Standing t m b) where
  pub refused_before : {e : PlaceB} → number_b e ≡ place_b m.state m.code.opcodes m.code.arguments → Advanced t m b (record { answer = Err (Before e); state = m.state; bytes = 0 }) m.memory b
  unfolding settled refusal_of
  refused_before {e} is =
      let d = b_turns m h.sound.deep is (number_b_some e) in
      record { gives = rw d (record { answer = refl; left = refl }); bytes = rw d; buffer = rw d }

  pub stands_on : {w : Bool} → 0 ≡ place_b m.state m.code.opcodes m.code.arguments → hashes (opcode_of m) ≡ w → StandingOn w t m b
  stands_on is e = let k = b_passes m h.sound.deep is refl in record { standing = h; inside = k.0; decides = k.1; way = e }
