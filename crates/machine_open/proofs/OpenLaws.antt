-- What open makes of the op stack, and its answers where place A and the fee table accept and where they refuse. Assumes nothing.
use mathlib.Core.Path.{◌≡◌, refl, sym, ap, ◌∙◌}
use mathlib.Core.Bool.{true≢false}
use mathlib.Core.List.{List, [], ◌∷◌}
use Prim.Native.Nat.{ℕ, ◌≤◌}
use native.Mathlib.Omega.{arith}
use lib.ListN.{length, get_or, replicate}
use Rattle.std.proofs.lemmas.Grind.{common_steps}
use Rattle.std.specs.Prelude.{Result, Ok, Err, IsErrAnd}
use Rattle.machine.specs.declared.refusal.InstructionError.{InstructionError}
use Rattle.machine.specs.declared.state.VMState.{VMState}
use Rattle.machine.specs.Refusal.{Refusal, refusal_of}
use Rattle.machine.specs.Machine.{Code, Memory, memory}
use Rattle.machine.specs.Apply.{applied_stack, kept}
use Rattle.machine.specs.PlaceA.{memory1, open_a}
use Rattle.machine.specs.FeeTable.{Fees, checked}
use Rattle.machine.specs.Open.{opened_stack, opened}
use Rattle.choices.proofs.Choice.{first-nil, above-nil}
use Rattle.machine.proofs.FeeTable.{checked-number}
use Rattle.machine.proofs.Refused.{refusal_some, open_accepts, open_refuses}
use Rattle.machine_fees.specs.FeeView.{FeesChecked}
use Rattle.machine_fees.proofs.FeeLaws.{fees_fine}
use Rattle.machine_open.specs.OpenView.{registers_of, Opens}

-- all words taken off, and the digest's five put on
pub stack_opened : (g s w : List ℕ) (n : ℕ) → n ≡ length s → 16 ≤ n → w ≡ get_or g 4 0 ∷ get_or g 3 0 ∷ get_or g 2 0 ∷ get_or g 1 0 ∷ get_or g 0 0 ∷ [] →
    applied_stack s n n w ≡ opened_stack g s
unfolding applied_stack opened_stack
stack_opened g s w n e h q = rw q (grind (arith, common_steps))

-- m is the memory as it is looked at
pub open_number : (v : ℕ) (g : List ℕ) (c : Code) {m l : Memory} (k : ℕ) {n : ℕ} → l ≡ m → n ≡ open_a v g c l k → n ≡ open_a v g c m k
open_number v g c k h e = e ∙ rw h refl

-- what place A and the fee table, where there is one, say
module _ (f : Fees) (v : ℕ) (g : List ℕ) (c : Code) (m : Memory) (k : ℕ) {n : ℕ} {qs : List ℕ} (h : n ≡ open_a v g c m k) where
  module _ {u : Unit {0}} (w : FeesChecked f n (Ok u) qs) where
    right : (checked f (open_a v g c m k)).number ≡ 0
    right = ap (λ (x : ℕ). (checked f x).number) (sym h) ∙ fees_fine f n (Ok u) qs w refl

    pub open_deep : 16 ≤ length m.op_stack
    unfolding open_a memory1
    open_deep =
        let a = checked-number f (open_a v g c m k) right in
        above-nil _ _ 1 (omega arith) (first-nil _ _ (first-nil _ _ (first-nil _ _ (first-nil _ _ a).0).1).1).0

    pub open_took : {s : VMState} {stack origins destinations : List ℕ} → s ≡ registers_of 16 k v → stack ≡ opened_stack g m.op_stack →
        origins ≡ replicate (length m.origins) 0 → destinations ≡ replicate (length m.destinations) 0 →
        Opens f v g c m k (Ok s) (memory stack origins destinations m.addresses m.values m.output)
    unfolding opened
    open_took e a o d = record { is = rw (open_accepts f v g c m k right, e, a, o, d) refl; stays = λ z. absurd (true≢false (sym z)) }

  pub open_kept : (e : InstructionError) (r : Result VMState InstructionError) → FeesChecked f n (Err e) qs → IsErrAnd r (λ x. x ≡ e) → Opens f v g c m k r m
  open_kept e (Ok s) w d = absurd d
  open_kept e (Err x) w d =
      let wrong : refusal_of e ≡ checked f (open_a v g c m k) = w.fault ∙ ap (checked f) h in
      let y = open_refuses f v g c m k (λ z. omega (arith, refusal_some e, ap (λ (r : Refusal). r.number) wrong ∙ z)) in
      record { is = rw y (ap kept (ap refusal_of d ∙ wrong)); stays = λ _. refl }
