-- A list of calls is a row of steps. Assumes nothing.
use mathlib.Core.Path.{◌≡◌, refl}
use mathlib.Core.Bool.{Bool, true, false}
use mathlib.Core.List.{List, [], ◌∷◌, ◌++◌}
use lib.ListN.{length}
use lib.Dec.{eqb}
use Rattle.choices.specs.Choice.{cond}
use Rattle.machine.specs.Refusal.{Refusal}
use Rattle.machine.specs.Machine.{Machine}
use Rattle.machine.specs.Effect.{Decision}
use Rattle.machine.specs.Apply.{Outcome, took, kept, lost}
use Rattle.machine.specs.PlaceA.{step_a}
use Rattle.machine.specs.FeeTable.{checked}
use Rattle.machine.specs.Step.{outcome_by}
use Rattle.machine.specs.Path.{spent, refused, Path, stays, onward, unlogged, bytes, tabled}
use Rattle.machine.proofs.Step.{step-outcome}
use Rattle.machine.proofs.Path.{last_of, Chain, chain_none, chain_more, chain_append, Row, row_stays, row_drops}
use Rattle.machine.proofs.Run.{call-row}
use Rattle.replay.specs.Job.{Ask, step, run, trace, rows, ask_of, job_of}

module _ (decide : Machine → Decision) where
  row_step : (m : Machine) (o : Outcome) → outcome_by decide m ≡ o → Row decide m (onward m (stays spent) o)
  row_step m (took x) e = record { chain = chain_more e chain_none; left = λ _. refl }
  row_step m (kept r) e = row_stays decide m (refused r)
  row_step m (lost r x) e = row_drops decide m x (refused r)

  pub row-ask : (m : Machine) (a : Ask) → Row decide m (ask_of decide m a)
  unfolding ask_of
  row-ask m (step f b) = rw (step-outcome decide f m b) (go (checked f (step_a m b)) (eqb (checked f (step_a m b)).number 0))
    where
      go : (r : Refusal) (t : Bool) → Row decide m (onward m (stays spent) (cond t (outcome_by decide m) (kept r)))
      go r true = row_step m (outcome_by decide m) refl
      go r false = row_stays decide m (refused r)
  row-ask m (run f n) = call-row decide f unlogged n m
  row-ask m (trace f n b) = call-row decide f (bytes (length b)) n m
  row-ask m (rows f n b t) = call-row decide f (tabled (length b) (length t)) n m

  pub job_chain : (asks : List Ask) (m : Machine) → Chain decide m (job_of decide m asks)
  unfolding job_of
  job_chain [] m = chain_none
  job_chain (a ∷ asks) m = go (ask_of decide m a) (row-ask m a) (λ x. job_chain asks x)
    where
      go : (p : Path) → Row decide m p → ((x : Machine) → Chain decide x (job_of decide x asks)) → Chain decide m (p.machines ++ cond p.dropped [] (job_of decide p.left asks))
      go p h k = chain_append decide h.chain (end p.dropped refl)
        where
          end : (t : Bool) → p.dropped ≡ t → Chain decide (last_of m p.machines) (cond t [] (job_of decide p.left asks))
          end true e = chain_none
          end false e = rw (← h.left e) (k p.left)
