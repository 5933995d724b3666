-- What a step's answer is where a limit is met, and where none is. Assumes nothing.
use mathlib.Core.Path.{◌≡◌, refl, ap, ◌∙◌}
use mathlib.Core.List.{[]}
use Prim.Native.Nat.{ℕ}
use borrow.Author.Tests.{eq-eqb, ne_eqb}
use Rattle.tip5.specs.declared.sponge.Sponge.{Sponge}
use Rattle.machine.specs.declared.refusal.InstructionError.{InstructionError}
use Rattle.machine.specs.Refusal.{refusal_of, plainly}
use Rattle.machine.specs.Machine.{Code, code, Machine}
use Rattle.machine.specs.Effect.{Effect}
use Rattle.machine.specs.Apply.{limits_of, performed_at}
use Rattle.std.specs.Prelude.{Ok, Err}
use Rattle.machine_perform.specs.AnswerView.{Gives, settled_at, turned}

-- a program with no slot
abbrev pub no_code : Code
no_code = code [] [] [] [] []

-- ---- the answers

module _ (m : Machine) (e : Effect) (q : ℕ) (s : Sponge) where
  pub settled-took : {x : Machine} → limits_of m e ≡ 0 → x ≡ performed_at m e q s → Gives m (settled_at m e q s) (Ok tt) x
  settled-took h l = rw (eq-eqb (limits_of m e) 0 h) (record { answer = refl; left = l })

  pub settled-kept : {n : ℕ} {r : InstructionError} → n ≡ limits_of m e → (n ≡ 0 → ⊥) → refusal_of r ≡ plainly n → Gives m (settled_at m e q s) (Err r) m
  settled-kept {n} h z l =
      let k : limits_of m e ≡ 0 → ⊥ = λ y. z (h ∙ y) in
      rw (ne_eqb (limits_of m e) 0 k) (record { answer = ap turned (l ∙ ap plainly h); left = refl })
