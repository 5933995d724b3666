-- What the code's decisions stand for, one law for each. Assumes nothing.
use Rattle.std.proofs.Common.{◌≡◌, ap, refl, Result, Ok, Err, Option, Some, None}
use Rattle.std.specs.Option.{ok_or}
use Rattle.std.specs.Result.{IsErrAnd}
use Rattle.std.proofs.lemmas.Result.{err_from_is_err_and}
use Rattle.machine.specs.declared.refusal.InstructionError.{InstructionError}
use Rattle.machine.specs.Refusal.{refusal_of}
use Rattle.machine.specs.Effect.{Effect, acts, refuses, drops}
use Rattle.machine_effects.specs.declared.effect.Effect.{Effect as CodeEffect}
use Rattle.machine_effects.specs.declared.effect.Refused.{Refused}
use Rattle.machine_effects.specs.declared.effect.Refused.TheVariants.{Kept, Dropped}
use Rattle.machine_effects.specs.EffectView.{effect_of, decision_of}

pub acts_as : (e : CodeEffect) {x : Effect} → effect_of e ≡ x → decision_of (Ok e) ≡ acts x
unfolding decision_of
acts_as e h = ap acts h

pub refuses-as : (e : InstructionError) → decision_of (Err (Kept e)) ≡ refuses (refusal_of e)
unfolding decision_of
refuses-as e = refl

pub drops-as : (e : InstructionError) → decision_of (Err (Dropped e)) ≡ drops (refusal_of e)
unfolding decision_of
drops-as e = refl

-- at the exit of a `?`
pub exits : (e : InstructionError) (r : Result CodeEffect Refused) → IsErrAnd r (λ d. d ≡ Kept e) → decision_of r ≡ refuses (refusal_of e)
exits e r h = let p = err_from_is_err_and r h in rw (p.1, p.2) (refuses-as e)

-- the exit where there is none
pub none_is : {A : Type 0} (t : Option A) (d e : InstructionError) → Err e ≡ ok_or t d → (t ≡ None) × (e ≡ d)
none_is None d e h = (refl, cc)
none_is (Some x) d e h = let z : ⊥ = cc in absurd z
