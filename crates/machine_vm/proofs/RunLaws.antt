-- What run, trace_execution and trace_rows give where place A and the fee table are accepted and where they are not. Assumes nothing.
use mathlib.Core.Path.{◌≡◌, refl, sym, ap, subst, ◌∙◌}
use mathlib.Core.Bool.{Bool, true, false, true≢false}
use mathlib.Core.List.{List, []}
use Prim.Native.Nat.{ℕ, ◌≤◌, ◌<◌}
use native.Mathlib.Omega.{arith}
use lib.ListN.{length}
use denote.Ref.{Bor}
use Rattle.std.specs.Prelude.{Ok, Err, Option, Some, None}
use Rattle.std.specs.Option.{option_and, option_copied}
use Rattle.machine.specs.declared.state.VMState.{VMState}
use Rattle.machine_fees.specs.declared.fee_table.LentFees.{LentFees}
use Rattle.machine.specs.declared.refusal.InstructionError.{InstructionError}
use Rattle.choices.specs.Choice.{first_of, above_of}
use Rattle.machine.specs.Lengths.{longest}
use Rattle.machine.specs.Refusal.{Refusal, refusal_of}
use Rattle.machine.specs.Instruction.{known_in, decode}
use Rattle.machine.specs.Machine.{Code, Memory, Machine, machine}
use Rattle.machine.specs.Decide.{decide_of}
use Rattle.machine.specs.Records.{log_bytes}
use Rattle.machine.specs.PlaceA.{machine_a}
use Rattle.machine.specs.FeeTable.{Fees, unpriced, priced, checked}
use Rattle.machine.specs.Fee.{price_in, fee_from, fee_of}
use Rattle.machine.specs.Path.{refused, Path, stays, path_by, log_from}
use Rattle.machine.specs.Run.{long1, call_a, call_by}
use Rattle.machine.specs.ProcessorRow.{rows_from}
use Rattle.machine.specs.Sound.{Sound}
use Rattle.choices.proofs.Choice.{first-nil, above-nil, above-not}
use Rattle.machine.proofs.FeeTable.{checked-number}
use Rattle.machine.proofs.PlaceA.{machine-sound}
use Rattle.machine.proofs.Path.{goes, path-row}
use Rattle.machine.proofs.Refused.{refusal_some}
use Rattle.machine.proofs.Fee.{fee_alike}
use Rattle.machine.proofs.Run.{call-is, call-refuses}
use Rattle.machine_log.proofs.Logged.{logged_none}
use Rattle.machine_fees.specs.FeeView.{fees_of, Pricing as FeePricing, FeesChecked}
use Rattle.machine_fees.proofs.FeeLaws.{fees_fine}
use Rattle.machine_steps.specs.declared.answer.Ending.TheVariants as E
use Rattle.machine_steps.specs.declared.answer.Ran.{Ran}
use Rattle.machine_steps.specs.RanView.{RanAs, RanOn}
use Rattle.machine_steps.specs.StepsView.{price_by, Pricing, left_of, space_of, log_of, rows_of, StandingIn, StepsOn}
use Rattle.machine_vm.specs.RunView.{Unasked, Calls, Runs}

abbrev pub turned_down : Machine → InstructionError → Ran
turned_down m e = record { count = 0; ending = E.Refused e; state = m.state; bytes = 0; fee = 0 }

-- a refused call writes neither records nor rows, and costs nothing
turned_on : (t u : Bool) (f : Fees) (m : Machine) (e : InstructionError) (b w : List ℕ) →
    let p = stays (refused (refusal_of e)) m in RanOn p (fee_of f m p.machines) (log_of t m p.machines) (rows_of u m p.machines) m.code b w (turned_down m e) m.memory b w
unfolding log_from log_bytes fee_from rows_from
turned_on t u f m e b w = go t u
  where
    ran : (t : Bool) → let p = stays (refused (refusal_of e)) m in RanAs p (fee_of f m p.machines) (log_of t m p.machines) m.code b (turned_down m e) m.memory b
    ran true = record { steps = refl; ending = refl; left = refl; fee = refl; bytes = refl; buffer = logged_none b 0 }
    ran false = record { steps = refl; ending = refl; left = refl; fee = refl; bytes = refl; buffer = logged_none b 0 }

    go : (t u : Bool) → let p = stays (refused (refusal_of e)) m in RanOn p (fee_of f m p.machines) (log_of t m p.machines) (rows_of u m p.machines) m.code b w (turned_down m e) m.memory b w
    go t true = record { ran = ran t; table = logged_none w 0 }
    go t false = record { ran = ran t; table = logged_none w 0 }

-- ---- place A's number

long_is : (t : Bool) (n : ℕ) → (t ≡ false → n ≤ longest) → above_of n longest 1 ≡ long1 (left_of t n)
long_is true n h = refl
long_is false n h = above-not n longest 1 (h refl)

long_nil : (t : Bool) (n : ℕ) → (t ≡ false → n ≤ longest) → long1 (left_of t n) ≡ 0 → n ≤ longest
long_nil true n h k = above-nil n longest 1 (omega arith) k
long_nil false n h k = h refl

-- k is the memory as it is looked at
pub call_number : {t u : Bool} (s : VMState) (c : Code) {m k : Memory} {b w : List ℕ} {n : ℕ} → Unasked t u b w → k ≡ m →
    n ≡ first_of (above_of (length w) longest 1) (first_of (above_of (length b) longest 1) (machine_a (machine s c k))) → n ≡ call_a (space_of t u (length b) (length w)) (machine s c m)
unfolding call_a
call_number {t} {u} s c {m} {k} {b} {w} l h e = e ∙ rw (h, long_is u (length w) l.table, long_is t (length b) l.log)

-- ---- the answers

-- the prices, where there is a table
abbrev pub prices_in : Fees → List ℕ → Option (List ℕ)
prices_in unpriced qs = None
prices_in (priced t) qs = Some qs

pub prices_are : (o : Option LentFees) (r : Bor (List ℕ)) → option_copied (option_and o (Some r)) ≡ prices_in (fees_of o) r.now
prices_are None r = refl
prices_are (Some t) r = refl

module _ {t u : Bool} (f : Fees) (budget : ℕ) (m : Machine) {b w qs : List ℕ} {n : ℕ} (l : Unasked t u b w) (e : n ≡ call_a (space_of t u (length b) (length w)) m) where
  module _ {v : Unit {0}} (h : FeesChecked f n (Ok v) qs) where
    right : (checked f (call_a (space_of t u (length b) (length w)) m)).number ≡ 0
    right = ap (λ (x : ℕ). (checked f x).number) (sym e) ∙ fees_fine f n (Ok v) qs h refl

    fine : (long1 (left_of u (length w)) ≡ 0) × (long1 (left_of t (length b)) ≡ 0) × (machine_a m ≡ 0)
    unfolding call_a
    fine =
        let k = first-nil (long1 (left_of u (length w))) (first_of (long1 (left_of t (length b))) (machine_a m)) (checked-number f (call_a (space_of t u (length b) (length w)) m) right) in
        let i = first-nil (long1 (left_of t (length b))) (machine_a m) k.1 in
        (k.0, i.0, i.1)

    -- the sponge has sixteen words and the clock 32 bits by their types
    pub call_stands : length m.state.sponge.words ≡ 16 → m.state.clock < 4294967296 → StandingIn m b w (prices_in f qs)
    call_stands sixteen clock =
        record {
          sound = machine-sound m sixteen clock fine.2;
          few = long_nil t (length b) l.log fine.1;
          few_rows = long_nil u (length w) l.table fine.0;
          pricing = prices_there f (h.prices refl);
        }
      where
        prices_there : (f : Fees) → FeePricing f qs → Pricing (prices_in f qs)
        prices_there unpriced k = record { all = _; narrow = λ o. omega arith }
        prices_there (priced a) k = record { all = omega (arith, k.priceable.all); narrow = k.priceable.narrow }

    price_same : (f : Fees) → FeePricing f qs → (o : ℕ) → known_in (decode o) ≡ true → price_by (prices_in f qs) o ≡ price_in f o
    price_same unpriced k o y = refl
    price_same (priced a) k o y = k.is o y

    pub call_accepted : {b2 w2 : List ℕ} {r : Ran} {n2 : Memory} → Sound m → StepsOn t u budget m b w (prices_in f qs) r n2 b2 w2 → Calls t u f budget m b w r n2 b2 w2
    call_accepted {b2} {w2} {r} {n2} s g =
        let x = path_by decide_of (space_of t u (length b) (length w)) budget m in
        let same : fee_from (price_by (prices_in f qs)) m x.machines ≡ fee_of f m x.machines = fee_alike (price_by (prices_in f qs)) (price_in f) (price_same f (h.prices refl)) (path-row decide_of (goes decide_of (space_of t u (length b) (length w)) budget m)).chain s in
        subst (λ (y : Path). RanOn y (fee_of f m y.machines) (log_of t m y.machines) (rows_of u m y.machines) m.code b w r n2 b2 w2)
        (sym (call-is decide_of f (space_of t u (length b) (length w)) budget m right))
        (subst (λ (i : ℕ). RanOn x i (log_of t m x.machines) (rows_of u m x.machines) m.code b w r n2 b2 w2) same g)

  pub call_turned : {x : InstructionError} → FeesChecked f n (Err x) qs → Calls t u f budget m b w (turned_down m x) m.memory b w
  call_turned {x} h =
      let wrong : refusal_of x ≡ checked f (call_a (space_of t u (length b) (length w)) m) = h.fault ∙ ap (checked f) e in
      let k = call-refuses decide_of f (space_of t u (length b) (length w)) budget m (λ y. omega (arith, refusal_some x, ap (λ (r : Refusal). r.number) wrong ∙ y)) in
      subst (λ (y : Path). RanOn y (fee_of f m y.machines) (log_of t m y.machines) (rows_of u m y.machines) m.code b w (turned_down m x) m.memory b w)
      (ap (λ (r : Refusal). stays (refused r) m) wrong ∙ sym k)
      (turned_on t u f m x b w)

-- run has neither log nor table
pub runs_by : (f : Fees) (budget : ℕ) (m : Machine) (b w : List ℕ) {b2 w2 : List ℕ} {r : Ran} {n : Memory} → Calls false false f budget m b w r n b2 w2 → Runs f budget m r n
runs_by f budget m b w h = record { steps = h.ran.steps; ending = h.ran.ending; left = h.ran.left; fee = h.ran.fee; bytes = h.ran.bytes; buffer = logged_none [] 0 }
