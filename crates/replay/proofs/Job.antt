-- What a job's definition has to do with the calls themselves: a step's path is what step does, and its log is what step writes, also for a step
-- taken within run; the log of the job is its calls' logs, one behind the other. The path of run and of trace_execution is that of the call, by
-- definition (run-passes in machine's proofs/Run.antt says which machines a run passes). Assumes nothing.
use mathlib.Core.Path.{◌≡◌, refl, sym, ap, ◌∙◌}
use mathlib.Core.Bool.{Bool, true, false}
use mathlib.Core.List.{List, [], ◌∷◌, ◌++◌, append-nil}
use Prim.Native.Nat.{ℕ, zero, suc, ◌+◌, ◌<◌}
use native.Mathlib.Omega.{arith}
use borrow.Author.Tests.{eq-eqb}
use lib.ListN.{length, get_or, take, drop}
use lib.Seq.{take-append_seam}
use lib.Dec.{eqb}
use Rattle.choices.specs.Choice.{cond}
use Rattle.machine.specs.Refusal.{Refusal}
use Rattle.machine.specs.Machine.{Machine}
use Rattle.machine.specs.Effect.{Effect, Decision, acts}
use Rattle.machine.specs.Apply.{Outcome, took, kept, lost}
use Rattle.machine.specs.Records.{Record, log_bytes}
use Rattle.machine.specs.PlaceA.{buffer1, machine_a, step_a}
use Rattle.machine.specs.FeeTable.{Fees, unpriced, checked}
use Rattle.machine.specs.Fee.{fee_from}
use Rattle.machine.specs.Step.{Stepped, stepped_by, records_in, outcome_by, step_by}
use Rattle.machine.specs.Path.{spent, refused, Path, path, stays, log_from}
use Rattle.machine.specs.Sound.{Sound, Facts}
use Rattle.choices.proofs.Choice.{first_zero}
use Rattle.machine.proofs.PlaceA.{machine-accepted}
use Rattle.machine.proofs.Fee.{fee_joined}
use Rattle.machine.proofs.Step.{step-outcome, step_records, step-sound, step_revision}
use Rattle.machine.proofs.Path.{last_of, Chain, chain_none, chain_more, Row, log-joined}
use Rattle.replay.specs.Job.{Ask, step, ask_of, job_of, records_of_job, machine_at}
use Rattle.replay.proofs.Calls.{row-ask, job_chain}

module _ (decide : Machine → Decision) where
  -- ---- step

  pub step-taken : (f : Fees) (m : Machine) (b : List ℕ) (x : Machine) → (step_by decide f m b).outcome ≡ took x → ask_of decide m (step f b) ≡ path (x ∷ []) x false spent
  unfolding ask_of
  step-taken f m b x h = rw h

  pub step_kept : (f : Fees) (m : Machine) (b : List ℕ) (r : Refusal) → (step_by decide f m b).outcome ≡ kept r → ask_of decide m (step f b) ≡ stays (refused r) m
  unfolding ask_of
  step_kept f m b r h = rw h

  pub step-dropped : (f : Fees) (m : Machine) (b : List ℕ) (r : Refusal) (x : Machine) → (step_by decide f m b).outcome ≡ lost r x → ask_of decide m (step f b) ≡ path [] x true (refused r)
  unfolding ask_of
  step-dropped f m b r x h = rw h

  -- ---- the log

  stepped-log : (b log : List ℕ) (o : Outcome) (x : Machine) → (stepped_by b log o).outcome ≡ took x → take (stepped_by b log o).bytes (stepped_by b log o).buffer ≡ log
  stepped-log b log (took y) x h = take-append_seam log (drop (length log) b)
  stepped-log b log (kept r) x h = let z : ◌≡◌ {A = ℕ} 0 1 = cc in absurd (omega arith)
  stepped-log b log (lost r y) x h = let z : ◌≡◌ {A = ℕ} 0 1 = cc in absurd (omega arith)

  -- the log of one step is what step leaves at the start of its buffer
  pub step-log : (f : Fees) (m : Machine) (b : List ℕ) (x : Machine) → (step_by decide f m b).outcome ≡ took x →
      take (step_by decide f m b).bytes (step_by decide f m b).buffer ≡ log_bytes m.state.revision (log_from decide m (x ∷ []))
  unfolding step_by log_from
  step-log f m b x h = go (eqb (checked f (step_a m b)).number 0) h ∙ ap (log_bytes m.state.revision) (sym (append-nil (records_in m (decide m))))
    where
      made : Bool → Stepped
      made t = cond t (stepped_by b (log_bytes m.state.revision (records_in m (decide m))) (outcome_by decide m)) (record { outcome = kept (checked f (step_a m b)); bytes = 0; buffer = b })

      go : (t : Bool) → (made t).outcome ≡ took x → take (made t).bytes (made t).buffer ≡ log_bytes m.state.revision (records_in m (decide m))
      go true q = stepped-log b (log_bytes m.state.revision (records_in m (decide m))) (outcome_by decide m) x q
      go false q = let z : ◌≡◌ {A = ℕ} 0 1 = cc in absurd (omega arith)

  -- the job's log is the calls' logs, one behind the other: what a call of trace_execution writes, the bytes of log_from over its path's machines
  -- by its contract, is that part of the job's log
  pub job-log : (m : Machine) (a : Ask) (more : List Ask) →
      records_of_job decide m (a ∷ more)
      ≡ log_from decide m (ask_of decide m a).machines ++ cond (ask_of decide m a).dropped [] (records_of_job decide (ask_of decide m a).left more)
  unfolding job_of log_from
  job-log m a more = go (ask_of decide m a) (row-ask decide m a)
    where
      go : (p : Path) → Row decide m p →
          log_from decide m (p.machines ++ cond p.dropped [] (job_of decide p.left more)) ≡ log_from decide m p.machines ++ cond p.dropped [] (log_from decide p.left (job_of decide p.left more))
      go p h =
          log-joined decide m p.machines (cond p.dropped [] (job_of decide p.left more))
          ∙ ap (λ (u : List Record). log_from decide m p.machines ++ u) (end p.dropped refl)
        where
          end : (t : Bool) → p.dropped ≡ t →
              log_from decide (last_of m p.machines) (cond t [] (job_of decide p.left more)) ≡ cond t [] (log_from decide p.left (job_of decide p.left more))
          end true e = refl
          end false e = ap (λ (x : Machine). log_from decide x (job_of decide p.left more)) (sym (h.left e))

  -- ---- the fee

  -- the fee of a job's steps is that of its calls, one behind the other, so that it does not depend on how the steps are cut into calls
  pub job_fee : (price : ℕ → ℕ) (m : Machine) (a : Ask) (more : List Ask) →
      fee_from price m (job_of decide m (a ∷ more))
      ≡ fee_from price m (ask_of decide m a).machines + cond (ask_of decide m a).dropped 0 (fee_from price (ask_of decide m a).left (job_of decide (ask_of decide m a).left more))
  unfolding job_of fee_from
  job_fee price m a more = go (ask_of decide m a) (row-ask decide m a)
    where
      go : (p : Path) → Row decide m p →
          fee_from price m (p.machines ++ cond p.dropped [] (job_of decide p.left more)) ≡ fee_from price m p.machines + cond p.dropped 0 (fee_from price p.left (job_of decide p.left more))
      go p h =
          fee_joined price m p.machines (cond p.dropped [] (job_of decide p.left more))
          ∙ ap (λ (u : ℕ). fee_from price m p.machines + u) (end p.dropped refl)
        where
          end : (t : Bool) → p.dropped ≡ t →
              fee_from price (last_of m p.machines) (cond t [] (job_of decide p.left more)) ≡ cond t 0 (fee_from price p.left (job_of decide p.left more))
          end true e = refl
          end false e = ap (λ (x : Machine). fee_from price x (job_of decide p.left more)) (sym (h.left e))

  -- ---- a step within run

  -- of a machine that place A accepts, step with any call buffer that it accepts, and with no fee table, has the outcome that run goes on with
  accepted : (m : Machine) (b : List ℕ) → machine_a m ≡ 0 → buffer1 m.state.revision b ≡ 0 → step_a m b ≡ 0
  unfolding step_a
  accepted m b h k = first_zero _ _ k ∙ h

  pub step_as_run : (m : Machine) (b : List ℕ) → machine_a m ≡ 0 → buffer1 m.state.revision b ≡ 0 → (step_by decide unpriced m b).outcome ≡ outcome_by decide m
  step_as_run m b h k = step-outcome decide unpriced m b ∙ rw (eq-eqb (step_a m b) 0 (accepted m b h k))

  -- and where it is taken, it writes the step's records at the buffer's start
  pub step-writes : (m : Machine) (b : List ℕ) (x : Machine) → machine_a m ≡ 0 → buffer1 m.state.revision b ≡ 0 → outcome_by decide m ≡ took x →
      step_by decide unpriced m b ≡ stepped_by b (log_bytes m.state.revision (records_in m (decide m))) (took x)
  step-writes m b x h k e = step_records decide unpriced m b x (accepted m b h k) e

  module _ (facts : (m : Machine) → Sound m → (e : Effect) → decide m ≡ acts e → Facts m e) where
    chain_step : {m : Machine} {ms : List Machine} (j : ℕ) (d : Machine) (b : List ℕ) → Chain decide m ms → Sound m → buffer1 m.state.revision b ≡ 0 → j < length ms →
        step_by decide unpriced (get_or (m ∷ ms) j d) b ≡ stepped_by b (log_bytes (get_or (m ∷ ms) j d).state.revision (records_in (get_or (m ∷ ms) j d) (decide (get_or (m ∷ ms) j d)))) (took (get_or (m ∷ ms) (suc j) d))
    chain_step j d b chain_none s k h = absurd (omega arith)
    chain_step {m} zero d b (chain_more {x = x} e c) s k h = step-writes m b x (machine-accepted m s) k e
    chain_step {m} (suc j) d b (chain_more {x = x} e c) s k h = chain_step j d b c (step-sound decide facts m x s e) (rw (step_revision decide m x e) k) (omega arith)

    -- 'a step taken within run counts, in records and state, as if step had taken it': whichever call took the job's step j, step
    -- takes the machine before it to the machine after it, and writes the records that the job's log has for it
    pub job-step : (m : Machine) (asks : List Ask) (j : ℕ) (b : List ℕ) → Sound m → buffer1 m.state.revision b ≡ 0 → j < length (job_of decide m asks) →
        step_by decide unpriced (machine_at decide m asks j) b
        ≡ stepped_by b (log_bytes (machine_at decide m asks j).state.revision (records_in (machine_at decide m asks j) (decide (machine_at decide m asks j)))) (took (machine_at decide m asks (suc j)))
    job-step m asks j b s k h = chain_step j m b (job_chain decide asks m) s k h
