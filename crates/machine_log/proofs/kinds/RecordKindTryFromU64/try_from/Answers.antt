use mathlib.Core.Bool.{Bool, true, false}
use mathlib.Core.Path.{◌≡◌, refl}
use native.Mathlib.Omega.{arith}
use Prim.Native.Nat.{ℕ}
use borrow.Author.Tests.{ne_eqb}
use lib.Dec.{eqb}
use Rattle.choices.specs.Choice.{cond}
use Rattle.machine.specs.Records.{length_of}
use Rattle.machine_log.proofs.kinds.RecordKindTryFromU64.try_from.Goals as goal

either-zero : (b : Bool) → cond {A = ℕ} b 0 0 ≡ 0
either-zero true = refl
either-zero false = refl

unknown : (n v : ℕ) → (n ≡ 1 → ⊥) → (n ≡ 2 → ⊥) → (n ≡ 3 → ⊥) → (n ≡ 4 → ⊥) → (n ≡ 5 → ⊥) → (n ≡ 6 → ⊥) → (n ≡ 7 → ⊥) → length_of v n ≡ 0
unfolding length_of
unknown n v a b c d e f g = rw (ne_eqb n 1 a, ne_eqb n 2 b, ne_eqb n 3 c, ne_eqb n 4 d, ne_eqb n 5 e, ne_eqb n 6 f, ne_eqb n 7 g) (either-zero (eqb v 2))

pub returns-in_default : goal.returns-in_default
returns-in_default c =
    (refl, λ v. unknown _ v (λ z. omega arith) (λ z. omega arith) (λ z. omega arith) (λ z. omega arith) (λ z. omega arith) (λ z. omega arith) (λ z. omega arith))
