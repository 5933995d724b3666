-- Whatever effect a decision acts has a property: the laws for choices and checks. Assumes nothing.
use mathlib.Core.Path.{◌≡◌, refl}
use mathlib.Core.Bool.{Bool, true, false}
use Prim.Native.Nat.{ℕ, ◌<◌, ◌^◌}
use borrow.Author.Tests.{ltb-true}
use lib.Dec.{ltb}
use Rattle.tip5.specs.declared.sponge.Sponge.{Sponge}
use Rattle.choices.specs.Choice.{cond}
use Rattle.machine.specs.Refusal.{Refusal}
use Rattle.machine.specs.Effect.{Effect, Decision, acts, refuses, drops, u32_only, unless}
use Rattle.machine.specs.Hashing.{sponge_only}

pub data Acts (P : Effect → Type 0) : Decision → Type 0 where
  acting : {e : Effect} → P e → Acts P (acts e)
  refusing : {r : Refusal} → Acts P (refuses r)
  dropping : {r : Refusal} → Acts P (drops r)

pub acted : {P : Effect → Type 0} {e : Effect} → Acts P (acts e) → P e
acted (acting h) = h

module _ {P : Effect → Type 0} where
  pub acts-map : {Q : Effect → Type 0} {d : Decision} → ((e : Effect) → P e → Q e) → Acts P d → Acts Q d
  acts-map f (acting {e} h) = acting (f e h)
  acts-map f refusing = refusing
  acts-map f dropping = dropping

  pub acts-cond : {a b : Decision} (t : Bool) → (t ≡ true → Acts P a) → (t ≡ false → Acts P b) → Acts P (cond t a b)
  acts-cond true f g = f refl
  acts-cond false f g = g refl

  pub acts-unless : {d : Decision} (t : Bool) (r : Refusal) → (t ≡ false → Acts P d) → Acts P (unless t r d)
  acts-unless t r f = acts-cond t (λ _. refusing) f

  pub acts-u32 : {d : Decision} (w : ℕ) → (w < 2 ^ 32 → Acts P d) → Acts P (u32_only w d)
  acts-u32 w f = acts-cond (ltb w (2 ^ 32)) (λ h. f (ltb-true w (2 ^ 32) h)) (λ _. refusing)

  pub acts_sponge : {d : Decision} (s : Sponge) → Acts P d → Acts P (sponge_only s d)
  acts_sponge s h = acts-cond s.set (λ _. h) (λ _. refusing)
