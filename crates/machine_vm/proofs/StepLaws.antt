-- What step's place A and its fee table say of its call, and what it gives where they accept and where they refuse; the row that it names. Assumes nothing.
use mathlib.Core.Path.{◌≡◌, refl, sym, ap, ◌∙◌}
use mathlib.Core.Bool.{Bool, true, false, true≢false}
use mathlib.Core.List.{List}
use Prim.Native.Nat.{ℕ, ◌<◌}
use native.Mathlib.Omega.{arith}
use borrow.Author.Tests.{eq-eqb, eqb-true, eqb-false}
use lib.ListN.{length}
use lib.Dec.{eqb}
use Rattle.std.specs.Prelude.{Result, Ok, Err, is_ok}
use Rattle.machine.specs.declared.refusal.InstructionError.{InstructionError}
use Rattle.choices.specs.Choice.{first_of, above_of}
use Rattle.machine.specs.Refusal.{Refusal, refusal_of}
use Rattle.machine.specs.declared.state.VMState.{VMState}
use Rattle.machine.specs.Machine.{Code, Memory, Machine, machine}
use Rattle.machine.specs.PlaceA.{longest, most_bytes, buffer1, machine_a, step_a}
use Rattle.machine.specs.FeeTable.{FeeTable, Fees, unpriced, priced, checked}
use Rattle.machine.specs.Fee.{row_named}
use Rattle.machine.specs.Decide.{opcode_of, decide_of}
use Rattle.machine.specs.Apply.{Outcome, took, kept, lost}
use Rattle.machine.specs.Step.{outcome_by, step_by, step_of}
use Rattle.choices.proofs.Choice.{first-nil, above-nil}
use Rattle.machine.proofs.FeeTable.{table_lowest, table-highest, checked-number, checked-slices}
use Rattle.machine.proofs.PlaceA.{machine-sound}
use Rattle.machine.proofs.Refused.{refusal_some, step-refuses}
use Rattle.machine_fees.specs.FeeView.{FeesChecked}
use Rattle.machine_fees.proofs.FeeLaws.{fees_fine}
use Rattle.machine_perform.specs.declared.answer.Stepped.{Stepped}
use Rattle.machine_perform.specs.AnswerView.{did, turned, answer_in, answered_by}
use Rattle.machine_vm.specs.StepView.{Steps, NamesRow}
use Rattle.machine_step.specs.AdvanceView.{Standing, Advanced}

-- k is the memory as it is looked at
pub step_number : (s : VMState) (c : Code) {m k : Memory} (b : List ℕ) {n : ℕ} → k ≡ m → n ≡ step_a (machine s c k) b → n ≡ step_a (machine s c m) b
step_number s c b h e = e ∙ rw h refl

-- where nothing is found wrong; the sponge has sixteen words and the clock 32 bits by their types
pub stands : (f : Fees) (m : Machine) (b : List ℕ) {n : ℕ} {v : Unit {0}} {qs : List ℕ} → length m.state.sponge.words ≡ 16 → m.state.clock < 4294967296 → n ≡ step_a m b → FeesChecked f n (Ok v) qs → Standing true m b
unfolding step_a buffer1
stands f m b {n} {v} {qs} sixteen clock e c =
    let k = first-nil _ (machine_a m) (sym e ∙ checked-number f n (fees_fine f n (Ok v) qs c refl)) in
    record { sound = machine-sound m sixteen clock k.1; room = λ _. above-nil (most_bytes m.state.revision) (length b) 1 (omega arith) (first-nil _ (above_of (most_bytes m.state.revision) (length b) 1) k.0).1 }

module _ (f : Fees) (m : Machine) (b : List ℕ) {n : ℕ} {qs : List ℕ} (e : n ≡ step_a m b) where
  pub stepped : {v : Unit {0}} {r : Stepped} {n2 : Memory} {b2 : List ℕ} → FeesChecked f n (Ok v) qs → Advanced true m b r n2 b2 → Steps f m b r n2 b2
  unfolding step_by outcome_by
  stepped {v} c a =
      let k = eq-eqb (checked f (step_a m b)).number 0 (ap (λ (x : ℕ). (checked f x).number) (sym e) ∙ fees_fine f n (Ok v) qs c refl) in
      record { gives = rw k a.gives; bytes = rw k a.bytes; buffer = rw k a.buffer }

  pub step_turned : {x : InstructionError} → FeesChecked f n (Err x) qs → Steps f m b (record { answer = Err x; state = m.state; bytes = 0 }) m.memory b
  step_turned {x} c =
      let w : refusal_of x ≡ checked f (step_a m b) = c.fault ∙ ap (checked f) e in
      let k = step-refuses decide_of f m b (λ y. omega (arith, refusal_some x, ap (λ (r : Refusal). r.number) w ∙ y)) in
      record { gives = rw k (record { answer = ap turned w; left = refl }); bytes = rw k; buffer = rw k }

-- ---- with a fee table

took-taken : (a : Result (Unit {0}) InstructionError) → answer_in a ≡ did → is_ok a ≡ true
took-taken (Ok u) h = refl
took-taken (Err e) h = let z : ◌≡◌ {A = ℕ} 0 1 = cc in absurd (omega arith)

turned_untaken : (a : Result (Unit {0}) InstructionError) (r : Refusal) → answer_in a ≡ turned r → is_ok a ≡ false
turned_untaken (Ok u) r h = let z : ◌≡◌ {A = ℕ} 0 1 = cc in absurd (omega arith)
turned_untaken (Err e) r h = refl

-- a step that is taken, by its answer
module _ {t : FeeTable} {m : Machine} {b b2 : List ℕ} {r : Stepped} {n : Memory} (s : Steps (priced t) m b r n b2) where
  taken-right : is_ok r.answer ≡ true → (checked (priced t) (step_a m b)).number ≡ 0
  taken-right y = go (eqb (checked (priced t) (step_a m b)).number 0) refl
    where
      go : (x : Bool) → eqb (checked (priced t) (step_a m b)).number 0 ≡ x → (checked (priced t) (step_a m b)).number ≡ 0
      go true q = eqb-true _ 0 q
      go false q =
          let k = step-refuses decide_of (priced t) m b (eqb-false _ 0 q) in
          let l : answer_in r.answer ≡ turned (checked (priced t) (step_a m b)) = rw k at s.gives.answer in
          absurd (true≢false (sym y ∙ turned_untaken r.answer _ l))

  -- its table's slices are as long as each other
  pub taken-shaped : is_ok r.answer ≡ true → length t.lowest ≡ length t.highest
  taken-shaped y =
      let k = checked-slices t (step_a m b) (taken-right y) in
      table_lowest t k ∙ sym (table-highest t k)

  pub names_row : {o x : ℕ} {y : Bool} → y ≡ is_ok r.answer → o ≡ opcode_of m → NamesRow y t.lowest t.highest o x → x ≡ row_named (priced t) m (step_of (priced t) m b).outcome
  names_row {o} {x} {y} e q h = go (step_of (priced t) m b).outcome refl
    where
      none_named : (w : Refusal) → answer_in r.answer ≡ turned w → x ≡ 0
      none_named w i = h.row t.lowest refl ∙ rw (e ∙ turned_untaken r.answer w i)

      go : (z : Outcome) → (step_of (priced t) m b).outcome ≡ z → x ≡ row_named (priced t) m (step_of (priced t) m b).outcome
      go (took z) i =
          let d = took-taken r.answer (s.gives.answer ∙ ap answered_by i) in
          h.row t.fees (table_lowest t (checked-slices t (step_a m b) (taken-right d))) ∙ (rw (e ∙ d, q) (ap (row_named (priced t) m) (sym i)))
      go (kept w) i = none_named w (s.gives.answer ∙ ap answered_by i) ∙ ap (row_named (priced t) m) (sym i)
      go (lost w z) i = none_named w (s.gives.answer ∙ ap answered_by i) ∙ ap (row_named (priced t) m) (sym i)

-- without a table there is no row
pub unnamed : (m : Machine) (o : Outcome) → 0 ≡ row_named unpriced m o
unnamed m (took x) = refl
unnamed m (kept r) = refl
unnamed m (lost r x) = refl
