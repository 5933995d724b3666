-- One step: what a successful one is, what a refused one leaves, and that a sound machine is left. Assumes nothing.
use mathlib.Core.Path.{◌≡◌, refl}
use mathlib.Core.Bool.{Bool, true, false}
use mathlib.Core.List.{List, ◌++◌}
use Prim.Native.Nat.{ℕ}
use native.Mathlib.Omega.{arith}
use borrow.Author.Tests.{eqb-true, eq-eqb}
use lib.ListN.{length, drop}
use lib.Dec.{eqb}
use Rattle.choices.specs.Choice.{cond}
use Rattle.machine.specs.Refusal.{Refusal, plainly}
use Rattle.machine.specs.Machine.{Machine}
use Rattle.machine.specs.Effect.{Effect, Decision, acts, refuses, drops}
use Rattle.machine.specs.Apply.{performed, dropped, limits_of, Outcome, took, kept, lost, settled}
use Rattle.machine.specs.Records.{log_bytes}
use Rattle.machine.specs.PlaceA.{step_a}
use Rattle.machine.specs.FeeTable.{Fees, checked}
use Rattle.machine.specs.Step.{Stepped, records_in, stepped_by, outcome_by, step_by}
use Rattle.machine.specs.Sound.{Sound, Facts}
use Rattle.machine.proofs.Preserved.{performed-sound, performed_revision}

-- ---- the step behind place A

-- a decision that is taken: an effect for which there is room
pub record Took (m : Machine) (d : Decision) (x : Machine) : Type 0 where
  pub effect : Effect
  pub acting : d ≡ acts effect
  pub limits : limits_of m effect ≡ 0
  pub is : performed m effect ≡ x

pub settled-took : (m : Machine) (d : Decision) (x : Machine) → settled m d ≡ took x → Took m d x
unfolding settled
settled-took m (acts e) x h = go (eqb (limits_of m e) 0) refl h
  where
    go : (t : Bool) → eqb (limits_of m e) 0 ≡ t → cond t (took (performed m e)) (kept (plainly (limits_of m e))) ≡ took x → Took m (acts e) x
    go true q k = record { effect = e; acting = refl; limits = eqb-true (limits_of m e) 0 q; is = cc }
    go false q k = let z : ◌≡◌ {A = ℕ} 0 1 = cc in absurd (omega arith)
settled-took m (refuses r) x h = let z : ◌≡◌ {A = ℕ} 0 1 = cc in absurd (omega arith)
settled-took m (drops r) x h = let z : ◌≡◌ {A = ℕ} 0 1 = cc in absurd (omega arith)

-- a decision that drops: only skiz's, with the machine that has the word dropped
pub settled-lost : (m : Machine) (d : Decision) (r : Refusal) (x : Machine) → settled m d ≡ lost r x → (d ≡ drops r) × (dropped m ≡ x)
unfolding settled
settled-lost m (acts e) r x h = go (eqb (limits_of m e) 0) h
  where
    go : (t : Bool) → cond t (took (performed m e)) (kept (plainly (limits_of m e))) ≡ lost r x → (acts e ≡ drops r) × (dropped m ≡ x)
    go true k = let z : ◌≡◌ {A = ℕ} 0 1 = cc in absurd (omega arith)
    go false k = let z : ◌≡◌ {A = ℕ} 0 1 = cc in absurd (omega arith)
settled-lost m (refuses q) r x h = let z : ◌≡◌ {A = ℕ} 0 1 = cc in absurd (omega arith)
settled-lost m (drops q) r x h = (cc, cc)

module _ (decide : Machine → Decision) where
  pub step-took : (m x : Machine) → outcome_by decide m ≡ took x → Took m (decide m) x
  unfolding outcome_by
  step-took m x h = settled-took m (decide m) x h

  pub step-lost : (m : Machine) (r : Refusal) (x : Machine) → outcome_by decide m ≡ lost r x → (decide m ≡ drops r) × (dropped m ≡ x)
  unfolding outcome_by
  step-lost m r x h = settled-lost m (decide m) r x h

  -- no step changes the log's revision
  pub step_revision : (m x : Machine) → outcome_by decide m ≡ took x → x.state.revision ≡ m.state.revision
  step_revision m x h = let k = step-took m x h in rw (← k.is) (performed_revision m k.effect)

  pub lost_revision : (m : Machine) (r : Refusal) (x : Machine) → outcome_by decide m ≡ lost r x → x.state.revision ≡ m.state.revision
  unfolding dropped
  lost_revision m r x h = let k = step-lost m r x h in rw (← k.1)

  -- ---- the call

  stepped-outcome : (b log : List ℕ) (o : Outcome) → (stepped_by b log o).outcome ≡ o
  stepped-outcome b log (took x) = refl
  stepped-outcome b log (kept r) = refl
  stepped-outcome b log (lost r x) = refl

  pub step-outcome : (f : Fees) (m : Machine) (b : List ℕ) → (step_by decide f m b).outcome ≡ cond (eqb (checked f (step_a m b)).number 0) (outcome_by decide m) (kept (checked f (step_a m b)))
  unfolding step_by
  step-outcome f m b = go (eqb (checked f (step_a m b)).number 0)
    where
      go : (t : Bool) →
          (cond t (stepped_by b (log_bytes m.state.revision (records_in m (decide m))) (outcome_by decide m)) (record { outcome = kept (checked f (step_a m b)); bytes = 0; buffer = b })).outcome
          ≡ cond t (outcome_by decide m) (kept (checked f (step_a m b)))
      go true = stepped-outcome b (log_bytes m.state.revision (records_in m (decide m))) (outcome_by decide m)
      go false = refl

  -- what a call's buffer is, by its outcome
  data Left (b : List ℕ) : Stepped → Type 0 where
    all-kept : {s : Stepped} → s.bytes ≡ 0 → s.buffer ≡ b → Left b s
    written : {s : Stepped} (x : Machine) → s.outcome ≡ took x → Left b s

  step_left : (f : Fees) (m : Machine) (b : List ℕ) → Left b (step_by decide f m b)
  unfolding step_by
  step_left f m b = go (eqb (checked f (step_a m b)).number 0)
    where
      by : (log : List ℕ) (o : Outcome) → Left b (stepped_by b log o)
      by log (took x) = written x refl
      by log (kept r) = all-kept refl refl
      by log (lost r x) = all-kept refl refl

      go : (t : Bool) → Left b (cond t (stepped_by b (log_bytes m.state.revision (records_in m (decide m))) (outcome_by decide m)) (record { outcome = kept (checked f (step_a m b)); bytes = 0; buffer = b }))
      go true = by (log_bytes m.state.revision (records_in m (decide m))) (outcome_by decide m)
      go false = all-kept refl refl

  -- a refused step writes no byte. That it leaves the machine is by its outcome: kept has none, and lost has the one with the
  -- word dropped
  pub refused_buffer : (f : Fees) (m : Machine) (b : List ℕ) (r : Refusal) → (step_by decide f m b).outcome ≡ kept r → ((step_by decide f m b).bytes ≡ 0) × ((step_by decide f m b).buffer ≡ b)
  refused_buffer f m b r h = go (step_by decide f m b) h (step_left f m b)
    where
      go : (s : Stepped) → s.outcome ≡ kept r → Left b s → (s.bytes ≡ 0) × (s.buffer ≡ b)
      go s e (all-kept x y) = (x, y)
      go s e (written x k) = let z : ◌≡◌ {A = ℕ} 0 1 = cc in absurd (omega arith)

  pub lost_buffer : (f : Fees) (m : Machine) (b : List ℕ) (r : Refusal) (x : Machine) → (step_by decide f m b).outcome ≡ lost r x → ((step_by decide f m b).bytes ≡ 0) × ((step_by decide f m b).buffer ≡ b)
  lost_buffer f m b r x h = go (step_by decide f m b) h (step_left f m b)
    where
      go : (s : Stepped) → s.outcome ≡ lost r x → Left b s → (s.bytes ≡ 0) × (s.buffer ≡ b)
      go s e (all-kept y z) = (y, z)
      go s e (written y k) = let z : ◌≡◌ {A = ℕ} 0 1 = cc in absurd (omega arith)

  -- a step that place A accepts and that succeeds leaves its records at the buffer's start
  pub step_records : (f : Fees) (m : Machine) (b : List ℕ) (x : Machine) → (checked f (step_a m b)).number ≡ 0 → outcome_by decide m ≡ took x →
      step_by decide f m b ≡ (record { outcome = took x; bytes = length (log_bytes m.state.revision (records_in m (decide m))); buffer = log_bytes m.state.revision (records_in m (decide m)) ++ drop (length (log_bytes m.state.revision (records_in m (decide m)))) b })
  unfolding step_by
  step_records f m b x a h = rw (eq-eqb (checked f (step_a m b)).number 0 a, h)

  -- ---- sound machines

  module _ (facts : (m : Machine) → Sound m → (e : Effect) → decide m ≡ acts e → Facts m e) where
    pub took-sound : (m x : Machine) → Sound m → Took m (decide m) x → Sound x
    took-sound m x s t = rw (← t.is) (performed-sound m t.effect s (facts m s t.effect t.acting) t.limits)

    -- 'a successful step leaves a state that place A accepts'
    pub step-sound : (m x : Machine) → Sound m → outcome_by decide m ≡ took x → Sound x
    step-sound m x s h = took-sound m x s (step-took m x h)
