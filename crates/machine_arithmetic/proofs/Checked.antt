-- What follows from the test whether a word is a u32. Assumes nothing.
use Rattle.std.proofs.Common.{◌≡◌, ℕ, ◌^◌, ◌<◌, ◌∙◌, Bool, true, false, refl, ap, ltb, Result, Ok, Err, arith}
use Rattle.std.specs.Result.{IsErrAnd}
use borrow.Author.Tests.{lt-ltb, le-ltb, ltb-true}
use Rattle.choices.specs.Choice.{cond}
use Rattle.machine.specs.declared.refusal.InstructionError.{InstructionError}
use Rattle.machine.specs.Refusal.{failed_u32_conversion, refusal_of}
use Rattle.machine.specs.Effect.{Decision, refuses, u32_only}
use Rattle.machine_effects.specs.declared.effect.Effect.{Effect}
use Rattle.machine_effects.specs.declared.effect.Refused.{Refused}
use Rattle.machine_effects.specs.declared.effect.Refused.TheVariants.{Kept}
use Rattle.machine_effects.specs.EffectView.{decision_of}
use Rattle.machine_effects.proofs.Effects.{exits}
use Rattle.machine_arithmetic.specs.U32.{IsU32}

pub not-u32 : (a b : ℕ) (e : InstructionError) → b ≡ a → IsU32 b (Err e) → a < 2 ^ 32 → ⊥
not-u32 a b e h u l = omega (arith, u.1)

-- at the exit of a `?`
pub turned_down : (a b : ℕ) (e : InstructionError) (r : Result Effect Refused) (d : Decision) → b ≡ a → IsU32 b (Err e) → IsErrAnd r (λ x. x ≡ Kept e) → decision_of r ≡ u32_only a d
unfolding refusal_of
turned_down a b e r d h u k = exits e r k ∙ rw (u.0, h, le-ltb a (2 ^ 32) (rw h at u.1))

pub goes_on : (a b n : ℕ) (d : Decision) → b ≡ a → IsU32 b (Ok n) → u32_only a d ≡ d
goes_on a b n d h u = rw (lt-ltb a (2 ^ 32) (rw h at u.1))

-- what is made of two words matters only where both are u32
pub made_alike : (a b x y : ℕ) (f : ℕ → Decision) → (a < 2 ^ 32 → b < 2 ^ 32 → x ≡ y) → u32_only a (u32_only b (f x)) ≡ u32_only a (u32_only b (f y))
made_alike a b x y f h = go (ltb a (2 ^ 32)) (ltb b (2 ^ 32)) refl refl
  where
    go : (t u : Bool) → ltb a (2 ^ 32) ≡ t → ltb b (2 ^ 32) ≡ u →
        cond t (cond u (f x) (refuses (failed_u32_conversion b))) (refuses (failed_u32_conversion a)) ≡ cond t (cond u (f y) (refuses (failed_u32_conversion b))) (refuses (failed_u32_conversion a))
    go true true e k = ap f (h (ltb-true a (2 ^ 32) e) (ltb-true b (2 ^ 32) k))
    go true false e k = refl
    go false u e k = refl
