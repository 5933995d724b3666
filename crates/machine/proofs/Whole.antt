-- A refused call, said whole: everything that was handed in is as it was, but that skiz drops its word, and that a run keeps the steps before the
-- refused one. Assumes nothing.
use mathlib.Core.Path.{◌≡◌, refl, sym, ap, subst, ◌∙◌}
use mathlib.Core.Bool.{Bool, true, false}
use mathlib.Core.List.{List}
use Prim.Native.Nat.{ℕ}
use native.Mathlib.Omega.{arith}
use borrow.Author.Tests.{eqb-true, eqb-false}
use lib.ListN.{length}
use lib.Dec.{eqb}
use Rattle.choices.specs.Choice.{cond}
use Rattle.machine.specs.Refusal.{Refusal}
use Rattle.machine.specs.Machine.{Code, Memory, Machine}
use Rattle.machine.specs.Decide.{decide_of}
use Rattle.machine.specs.Apply.{Outcome, took, kept, lost, dropped}
use Rattle.machine.specs.PlaceA.{open_a, step_a}
use Rattle.machine.specs.FeeTable.{Fees, checked}
use Rattle.machine.specs.Open.{opened, open_of}
use Rattle.machine.specs.Step.{Stepped, step_of, outcome_by}
use Rattle.machine.specs.Path.{Space, unlogged, bytes, tabled, Path, stays, refused}
use Rattle.machine.specs.Run.{call_a, call_by, run_of, trace_execution_of, trace_rows_of}
use Rattle.machine.proofs.Step.{step-outcome, refused_buffer, lost_buffer}
use Rattle.machine.proofs.Path.{RefusedAfter}
use Rattle.machine.proofs.Run.{call-refuses, call-refused-after}
use Rattle.machine.proofs.Refused.{open_accepts, open_refuses}
use Rattle.machine.proofs.Drops.{AtSkiz, lost-at-skiz}

-- what a step that is refused gives, from the machine m with the call buffer b
pub data StepRefused (m : Machine) (b : List ℕ) : Stepped → Type 0 where
  -- machine and buffer stay
  unchanged : {r : Refusal} → StepRefused m b (record { outcome = kept r; bytes = 0; buffer = b })
  -- skiz on 0 where no slot is next, number 11: its word is dropped, and nothing else
  word_dropped : {r : Refusal} → AtSkiz m r → StepRefused m b (record { outcome = lost r (dropped m); bytes = 0; buffer = b })

-- place A gives no machine, so what is lost is lost behind it
lost-behind : (t : Bool) (o : Outcome) (w r : Refusal) (x : Machine) → cond t o (kept w) ≡ lost r x → o ≡ lost r x
lost-behind true o w r x e = e
lost-behind false o w r x e = let z : ◌≡◌ {A = ℕ} 0 1 = cc in absurd (omega arith)

pub step-refused : (f : Fees) (m : Machine) (b : List ℕ) → ((x : Machine) → (step_of f m b).outcome ≡ took x → ⊥) → StepRefused m b (step_of f m b)
step-refused f m b h = go (step_of f m b).outcome refl
  where
    go : (o : Outcome) → (step_of f m b).outcome ≡ o → StepRefused m b (step_of f m b)
    go (took x) e = absurd (h x e)
    go (kept r) e =
        let k = refused_buffer decide_of f m b r e in
        let q : (record { outcome = kept r; bytes = 0; buffer = b }) ≡ step_of f m b = λ d. record { outcome = sym e d; bytes = sym k.0 d; buffer = sym k.1 d } in
        subst (StepRefused m b) q unchanged
    go (lost r x) e =
        let k = lost_buffer decide_of f m b r x e in
        let l = lost-at-skiz m r x (lost-behind (eqb (checked f (step_a m b)).number 0) (outcome_by decide_of m) (checked f (step_a m b)) r x (sym (step-outcome decide_of f m b) ∙ e)) in
        let q : (record { outcome = lost r (dropped m); bytes = 0; buffer = b }) ≡ step_of f m b = λ d. record { outcome = sym (e ∙ ap (lost r) (sym l.1)) d; bytes = sym k.0 d; buffer = sym k.1 d } in
        subst (StepRefused m b) q (word_dropped l.0)

-- ---- open

pub open_refused : (f : Fees) (v : ℕ) (g : List ℕ) (c : Code) (m : Memory) (n : ℕ) → ((x : Machine) → open_of f v g c m n ≡ took x → ⊥) → open_of f v g c m n ≡ kept (checked f (open_a v g c m n))
open_refused f v g c m n h = open_refuses f v g c m n (λ e. h (opened v g c m n) (open_accepts f v g c m n e))

-- ---- run, trace_execution and trace_rows

-- what a call that is refused with w gives, from the machine m: place A or the fee table refuses it, and nothing is changed; or it has taken steps, which are kept, and
-- the refused one leaves what a refused step leaves. Log and table have the records and the rows of the steps that it took (Traces and TracesRows, in the
-- contracts)
pub data RunRefused (m : Machine) (w : Refusal) : Path → Type 0 where
  at_once : RunRefused m w (stays (refused w) m)
  after_steps : {p : Path} → RefusedAfter decide_of m w p → RunRefused m w p

ending-is : (w v : Refusal) → refused v ≡ refused w → v ≡ w
ending-is w v e = cc

pub call-refused : (f : Fees) (s : Space) (n : ℕ) (m : Machine) (w : Refusal) → (call_by decide_of f s n m).ending ≡ refused w → RunRefused m w (call_by decide_of f s n m)
call-refused f s n m w h = go (eqb (checked f (call_a s m)).number 0) refl
  where
    go : (t : Bool) → eqb (checked f (call_a s m)).number 0 ≡ t → RunRefused m w (call_by decide_of f s n m)
    go true e = after_steps (call-refused-after decide_of f s n m w (eqb-true (checked f (call_a s m)).number 0 e) h)
    go false e =
        let k = call-refuses decide_of f s n m (eqb-false (checked f (call_a s m)).number 0 e) in
        let q = ending-is w (checked f (call_a s m)) (ap (λ (r : Path). r.ending) (sym k) ∙ h) in
        subst (RunRefused m w) (sym (k ∙ ap (λ (x : Refusal). stays (refused x) m) q)) at_once

pub run-refused : (f : Fees) (n : ℕ) (m : Machine) (w : Refusal) → (run_of f n m).ending ≡ refused w → RunRefused m w (run_of f n m)
run-refused f n m = call-refused f unlogged n m

pub trace-refused : (f : Fees) (n : ℕ) (m : Machine) (b : List ℕ) (w : Refusal) → (trace_execution_of f n m b).ending ≡ refused w → RunRefused m w (trace_execution_of f n m b)
trace-refused f n m b = call-refused f (bytes (length b)) n m

pub rows-refused : (f : Fees) (n : ℕ) (m : Machine) (b t : List ℕ) (w : Refusal) → (trace_rows_of f n m b t).ending ≡ refused w → RunRefused m w (trace_rows_of f n m b t)
rows-refused f n m b t = call-refused f (tabled (length b) (length t)) n m
