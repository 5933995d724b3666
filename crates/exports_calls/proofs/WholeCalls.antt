-- A call over numbers and slices that gives a number other than 0, said whole: what it gives, and what has become of everything that is lent. Assumes nothing.
use mathlib.Core.Path.{◌≡◌, refl, sym, ap, subst, ◌∙◌}
use mathlib.Core.Bool.{Bool, true, false}
use mathlib.Core.List.{List, [], ◌∷◌}
use mathlib.Core.Logic.{◌⊎◌, inl, inr}
use Prim.Native.Nat.{ℕ}
use native.Mathlib.Omega.{arith}
use borrow.Author.Tests.{eq-eqb, eqb-true, eqb-false}
use lib.ListN.{length, replicate}
use lib.Dec.{eqb}
use Rattle.machine.specs.Refusal.{Refusal}
use Rattle.machine.specs.Ram.{Cells}
use Rattle.machine.specs.Machine.{Code, Memory, Machine, machine}
use Rattle.machine.specs.Decide.{decide_of}
use Rattle.machine.specs.Apply.{Outcome, took, kept, lost, dropped}
use Rattle.machine.specs.PlaceA.{machine_a}
use Rattle.machine.specs.FeeTable.{Fees, unpriced}
use Rattle.machine.specs.Fee.{fee_of, row_named}
use Rattle.machine.specs.Open.{open_of}
use Rattle.machine.specs.Lengths.{row_words}
use Rattle.machine.specs.Step.{Stepped, step_of}
use Rattle.machine.specs.Path.{the_log, the_table, Ending, halted, spent, full, refused, Path, stays}
use Rattle.machine.specs.Run.{run_of, trace_execution_of, trace_rows_of}
use Rattle.machine.specs.Given.{Given, given_of}
use Rattle.machine.specs.HelperVariables.{helpers_at}
use Rattle.machine.specs.ProcessorRow.{row_of}
use Rattle.machine.proofs.Drops.{AtSkiz}
use Rattle.machine.proofs.Path.{RefusedAfter}
use Rattle.machine.proofs.Whole as M
use Rattle.machine_perform.specs.AnswerView.{answered_by}
use Rattle.machine_vm.specs.RunView.{path_log}
use Rattle.replay.specs.Replay.{replay_of}
use Rattle.exports_words.specs.Registers.{state_of}
use Rattle.exports_words.specs.Report.{report, answer_words, answer_of, step_report, run_report}
use Rattle.exports_words.specs.Calls.{Called, Recorded, recorded, Tabled, tabled, fits_of, misfitted, reported}
use Rattle.exports_calls.specs.StepCall.{step_call}
use Rattle.exports_calls.specs.RunCall.{run_gives, run_call, trace_gives, trace_call, rows_gives, rows_call}
use Rattle.exports_calls.specs.OpenCall.{open_fits_of, open_gives, open_call}
use Rattle.exports_calls.specs.GivenCall.{zeroed, given_call, helper_call, row_call}
use Rattle.exports_calls.specs.ReplayCall.{Replied, replied, replay_call}
use Rattle.exports_calls.proofs.RefusedCalls.{refused_call, run-same, trace-same, rows_same, step-misfit, run-misfit, trace-misfit, rows-misfit, open_misfit, given-misfit, step_kept, step-lost, replay_refused}
use Rattle.exports_calls.specs.declared.thin.Registers.{Registers}
use Rattle.exports_calls.specs.ThinCall.{state_in, Thin, thinly, told, thin_gives, thin_call}
use Rattle.exports_calls.proofs.ReplayCallLaws.{replay_misfits}
use Rattle.exports_calls.proofs.ThinCallLaws.{thin_misfits, thin-kept}

-- ---- step

module _ (f : Fees) (w a : List ℕ) (c : Code) (m : Memory) where
  abbrev from : Machine
  from = machine (state_of w) c m

  pub data StepTurned (b : List ℕ) : Recorded → Type 0 where
    -- slices do not fit: nothing is changed, but that an answer of seven words says so
    misfit_said : StepTurned b (recorded (misfitted (answer_words f) w a m) b)
    -- nothing is changed but the answer
    unchanged : (r : Refusal) → StepTurned b (recorded (refused_call (answer_words f) w m r) b)
    -- skiz on 0 with no next slot, number 11: only its word is dropped
    word_dropped : (r : Refusal) → AtSkiz (machine (state_of w) c m) r →
        StepTurned b (recorded (reported (answer_words f) (report 3 r 0 0 0) (dropped (machine (state_of w) c m)).state (dropped (machine (state_of w) c m)).memory) b)

  taken-number : (b : List ℕ) (x : Machine) → fits_of w a (answer_words f) ≡ true → (step_of f from b).outcome ≡ took x → (step_call f w a c m b).call.number ≡ 0
  unfolding step_call
  taken-number b x h e = rw h (λ d. (step_report (answered_by (e d)) (step_of f from b).bytes (row_named f from (e d))).number)

  turned_by : (b : List ℕ) (s : Stepped) → fits_of w a (answer_words f) ≡ true → step_of f from b ≡ s → M.StepRefused from b s → StepTurned b (step_call f w a c m b)
  turned_by b _ h e (M.unchanged {r}) = subst (StepTurned b) (sym (step_kept f w a c m h b r (ap (λ (s : Stepped). s.outcome) e))) (unchanged r)
  turned_by b _ h e (M.word_dropped {r} k) = subst (StepTurned b) (sym (step-lost f w a c m h b r (dropped from) (ap (λ (s : Stepped). s.outcome) e))) (word_dropped r k)

  pub step-whole : (b : List ℕ) → ((step_call f w a c m b).call.number ≡ 0 → ⊥) → StepTurned b (step_call f w a c m b)
  step-whole b z = go (fits_of w a (answer_words f)) refl
    where
      go : (t : Bool) → fits_of w a (answer_words f) ≡ t → StepTurned b (step_call f w a c m b)
      go true h = turned_by b (step_of f from b) h refl (M.step-refused f from b (λ x e. z (taken-number b x h e)))
      go false h = subst (StepTurned b) (sym (step-misfit f w a c m h b)) misfit_said

  -- ---- run, trace_execution and trace_rows

  -- where the number is not 0, the path ended refused
  refused_only : (p : Path) (n : ℕ) (A : Type 0) → ((run_gives f from p n).number ≡ 0 → ⊥) → ((r : Refusal) → p.ending ≡ refused r → A) → A
  refused_only p n A z k = go p.ending refl
    where
      number : Ending → ℕ
      number e = (run_report e (length p.machines) n (fee_of f from p.machines)).number

      go : (e : Ending) → p.ending ≡ e → A
      go halted q = absurd (z (ap number q))
      go spent q = absurd (z (ap number q))
      go (full the_log) q = absurd (z (ap number q))
      go (full the_table) q = absurd (z (ap number q))
      go (refused r) q = k r q

  -- what such a call gives: `say` of its path, `unfit` where the slices do not fit, `same` of a refusal that changes nothing
  module _ {R : Type 0} (say : Path → R) (unfit : R) (same : Refusal → R) where
    pub data Turned : R → Type 0 where
      misfit_said : Turned unfit
      -- place A or the fee table refuses: nothing is changed but the answer
      unchanged : (r : Refusal) → Turned (same r)
      -- the steps before are kept, with their records and rows, and the refused one leaves what a refused step leaves
      after_steps : (p : Path) (r : Refusal) → p.ending ≡ refused r → RefusedAfter decide_of (machine (state_of w) c m) r p → Turned (say p)

    turned : (p q : Path) (r : Refusal) → say (stays (refused r) from) ≡ same r → p ≡ q → p.ending ≡ refused r → M.RunRefused from r q → Turned (say p)
    turned p _ r h e i M.at_once = subst Turned (sym (ap say e ∙ h)) (unchanged r)
    turned p q r h e i (M.after_steps l) = after_steps p r i (subst (RefusedAfter decide_of from r) (sym e) l)

    -- the call x, on the path p
    whole : (x : R) (number : R → ℕ) (n : ℕ) (p : Path) → (fits_of w a (answer_words f) ≡ true → x ≡ say p) → (fits_of w a (answer_words f) ≡ false → x ≡ unfit) → number (say p) ≡ (run_gives f from p n).number →
        (fits_of w a (answer_words f) ≡ true → (r : Refusal) → say (stays (refused r) from) ≡ same r) → ((r : Refusal) → p.ending ≡ refused r → M.RunRefused from r p) → (number x ≡ 0 → ⊥) → Turned x
    whole x number n p fits misfits is at_once refuses z = go (fits_of w a (answer_words f)) refl
      where
        go : (t : Bool) → fits_of w a (answer_words f) ≡ t → Turned x
        go true h =
            let e = fits h in
            subst Turned (sym e) (refused_only p n (Turned (say p)) (λ y. z (ap number e ∙ is ∙ y)) (λ r i. turned p p r (at_once h r) refl i (refuses r i)))
        go false h = subst Turned (sym (misfits h)) misfit_said

  abbrev pub RunTurned : Called → Type 0
  RunTurned = Turned (λ p. run_gives f (machine (state_of w) c m) p 0) (misfitted (answer_words f) w a m) (refused_call (answer_words f) w m)

  abbrev pub TraceTurned : List ℕ → Recorded → Type 0
  TraceTurned b = Turned (trace_gives f b (machine (state_of w) c m)) (recorded (misfitted (answer_words f) w a m) b) (λ r. recorded (refused_call (answer_words f) w m r) b)

  abbrev pub RowsTurned : List ℕ → List ℕ → Tabled → Type 0
  RowsTurned b t = Turned (rows_gives f b t (machine (state_of w) c m)) (tabled (recorded (misfitted (answer_words f) w a m) b) t) (λ r. tabled (recorded (refused_call (answer_words f) w m r) b) t)

  run_fitted : (budget : ℕ) → fits_of w a (answer_words f) ≡ true → run_call f budget w a c m ≡ run_gives f from (run_of f budget from) 0
  unfolding run_call
  run_fitted budget h = rw h

  trace_fitted : (budget : ℕ) (b : List ℕ) → fits_of w a (answer_words f) ≡ true → trace_call f budget w a c m b ≡ trace_gives f b from (trace_execution_of f budget from b)
  unfolding trace_call
  trace_fitted budget b h = rw h

  rows_fitted : (budget : ℕ) (b t : List ℕ) → fits_of w a (answer_words f) ≡ true → rows_call f budget w a c m b t ≡ rows_gives f b t from (trace_rows_of f budget from b t)
  unfolding rows_call
  rows_fitted budget b t h = rw h

  pub run-whole : (budget : ℕ) → ((run_call f budget w a c m).number ≡ 0 → ⊥) → RunTurned (run_call f budget w a c m)
  run-whole budget =
      whole (λ p. run_gives f from p 0) (misfitted (answer_words f) w a m) (refused_call (answer_words f) w m) (run_call f budget w a c m) (λ x. x.number) 0 (run_of f budget from)
      (run_fitted budget) (λ h. run-misfit f w a c m h budget) refl (λ h. run-same f w a c m h) (M.run-refused f budget from)

  pub trace-whole : (budget : ℕ) (b : List ℕ) → ((trace_call f budget w a c m b).call.number ≡ 0 → ⊥) → TraceTurned b (trace_call f budget w a c m b)
  trace-whole budget b =
      let p = trace_execution_of f budget from b in
      whole (trace_gives f b from) (recorded (misfitted (answer_words f) w a m) b) (λ r. recorded (refused_call (answer_words f) w m r) b) (trace_call f budget w a c m b) (λ x. x.call.number) (length (path_log from p)) p
      (trace_fitted budget b) (λ h. trace-misfit f w a c m h budget b) refl (λ h. trace-same f w a c m h b) (M.trace-refused f budget from b)

  pub rows_whole : (budget : ℕ) (b t : List ℕ) → ((rows_call f budget w a c m b t).call.call.number ≡ 0 → ⊥) → RowsTurned b t (rows_call f budget w a c m b t)
  rows_whole budget b t =
      let p = trace_rows_of f budget from b t in
      whole (rows_gives f b t from) (tabled (recorded (misfitted (answer_words f) w a m) b) t) (λ r. tabled (recorded (refused_call (answer_words f) w m r) b) t) (rows_call f budget w a c m b t) (λ x. x.call.call.number) (length (path_log from p)) p
      (rows_fitted budget b t) (λ h. rows-misfit f w a c m h budget b t) refl (λ h. rows_same f w a c m h b t) (M.rows-refused f budget from b t)

-- ---- open, helper variables and row, replay

-- an open that gives a number: slices do not fit, or place A or the fee table refuses; nothing is changed but the answer
pub data OpenTurned (w a : List ℕ) (m : Memory) : Called → Type 0 where
  misfit_said : OpenTurned w a m (misfitted 7 w a m)
  unchanged : (r : Refusal) → OpenTurned w a m (refused_call 7 w m r)

open_fitted : (f : Fees) (w a : List ℕ) (v : ℕ) (g : List ℕ) (n : ℕ) (c : Code) (m : Memory) → open_fits_of w a g ≡ true → open_call f w a v g n c m ≡ open_gives w m (open_of f v g c m n)
unfolding open_call
open_fitted f w a v g n c m h = rw h

pub open_whole : (f : Fees) (w a : List ℕ) (v : ℕ) (g : List ℕ) (n : ℕ) (c : Code) (m : Memory) → ((open_call f w a v g n c m).number ≡ 0 → ⊥) → OpenTurned w a m (open_call f w a v g n c m)
open_whole f w a v g n c m z = go (open_fits_of w a g) refl
  where
    by : (o : Outcome) → ((open_gives w m o).number ≡ 0 → ⊥) → OpenTurned w a m (open_gives w m o)
    by (took x) k = absurd (k refl)
    by (kept r) k = unchanged r
    by (lost r x) k = unchanged r

    go : (t : Bool) → open_fits_of w a g ≡ t → OpenTurned w a m (open_call f w a v g n c m)
    go true h = let e = open_fitted f w a v g n c m h in subst (OpenTurned w a m) (sym e) (by (open_of f v g c m n) (λ y. z (ap (λ (x : Called). x.number) e ∙ y)))
    go false h = subst (OpenTurned w a m) (sym (open_misfit f w a v g n c m h)) misfit_said

-- what is left in the slice v of k words: k zeros, or v itself where it has not k words
abbrev pub GivenTurned : ℕ → List ℕ → List ℕ → Type 0
GivenTurned k v x = (x ≡ replicate k 0) ⊎ ((length v ≡ k → ⊥) × (x ≡ v))

given_unfit : (k : ℕ) (v : List ℕ) (t : Bool) → eqb (length v) k ≡ t → GivenTurned k v (zeroed k v)
unfolding zeroed
given_unfit k v true h = inl (rw h)
given_unfit k v false h = inr (eqb-false (length v) k h, rw h)

given_zeros : (m : Machine) (k : ℕ) (s : List ℕ) (t : Bool) → eqb (machine_a m) 0 ≡ t → ((given_of m k s).number ≡ 0 → ⊥) → (given_of m k s).words ≡ replicate k 0
unfolding given_of
given_zeros m k s true h z = absurd (z (rw h))
given_zeros m k s false h z = rw h

given_fitted : (k : ℕ) (f : Machine → Given) (w v : List ℕ) (c : Code) (m : Memory) → fits_of w v k ≡ true → given_call k f w v c m ≡ f (machine (state_of w) c m)
unfolding given_call
given_fitted k f w v c m h = rw h

-- a call that gives words of the machine, or a number. Registers and memory are only read
given-whole : (k : ℕ) (f : Machine → List ℕ) (w v : List ℕ) (c : Code) (m : Memory) → ((given_call k (λ x. given_of x k (f x)) w v c m).number ≡ 0 → ⊥) → GivenTurned k v (given_call k (λ x. given_of x k (f x)) w v c m).words
given-whole k f w v c m z = go (fits_of w v k) refl
  where
    g : Machine → Given
    g x = given_of x k (f x)

    go : (t : Bool) → fits_of w v k ≡ t → GivenTurned k v (given_call k g w v c m).words
    go true h =
        let e = given_fitted k g w v c m h in
        let x = machine (state_of w) c m in
        inl (ap (λ (y : Given). y.words) e ∙ given_zeros x k (f x) (eqb (machine_a x) 0) refl (λ y. z (ap (λ (i : Given). i.number) e ∙ y)))
    go false h = subst (λ (x : Given). GivenTurned k v x.words) (sym (given-misfit k g w v c m h)) (given_unfit k v (eqb (length v) k) refl)

pub helper_whole : (w v : List ℕ) (c : Code) (m : Memory) → ((helper_call w v c m).number ≡ 0 → ⊥) → GivenTurned 6 v (helper_call w v c m).words
helper_whole = given-whole 6 helpers_at

pub row-whole : (w v : List ℕ) (c : Code) (m : Memory) → ((row_call w v c m).number ≡ 0 → ⊥) → GivenTurned row_words v (row_call w v c m).words
row-whole = given-whole row_words row_of

-- a replay that gives a number: stack slice and RAM slices stay; the answer says the number and zeros, and one of another length stays
pub data ReplayTurned (a s : List ℕ) (c : Cells) : Replied → Type 0 where
  misfit_stays : ReplayTurned a s c (replied 1 a s c.addresses c.values)
  unchanged : {n : ℕ} → ReplayTurned a s c (replied n (n ∷ 0 ∷ 0 ∷ []) s c.addresses c.values)

replay_number : (a log s : List ℕ) (v j : ℕ) (c : Cells) → eqb (length a) 3 ≡ true → (replay_call a log v j c s).number ≡ (replay_of v log c s j).number
unfolding replay_call
replay_number a log s v j c h = rw h

pub replay_whole : (a log s : List ℕ) (v j : ℕ) (c : Cells) → ((replay_call a log v j c s).number ≡ 0 → ⊥) → ReplayTurned a s c (replay_call a log v j c s)
replay_whole a log s v j c z = go (eqb (length a) 3) refl
  where
    go : (t : Bool) → eqb (length a) 3 ≡ t → ReplayTurned a s c (replay_call a log v j c s)
    go true h = subst (ReplayTurned a s c) (sym (replay_refused a log s v j c (eqb-true (length a) 3 h) (λ y. z (replay_number a log s v j c h ∙ y)))) unchanged
    go false h = subst (ReplayTurned a s c) (replay_misfits a log s v j c (eqb-false (length a) 3 h)) misfit_stays

-- ---- step over the register record

module _ (r : Registers) (a : List ℕ) (c : Code) (m : Memory) where
  abbrev stand : Machine
  stand = machine (state_in r) c m

  pub data ThinTurned (b : List ℕ) : Thin → Type 0 where
    -- the answer has not seven words: nothing is changed
    misfit_stays : ThinTurned b (thinly 1 r a m b)
    -- nothing is changed but the answer
    unchanged : (q : Refusal) → ThinTurned b (thinly q.number r (answer_of 7 (report 3 q 0 0 0)) m b)
    -- skiz on 0 with no next slot, number 11: only its word is dropped
    word_dropped : (q : Refusal) → AtSkiz (machine (state_in r) c m) q → ThinTurned b (told r (report 3 q 0 0 0) (dropped (machine (state_in r) c m)) b)

  thin-taken : (b : List ℕ) (x : Machine) → length a ≡ 7 → (step_of unpriced stand b).outcome ≡ took x → (thin_call r a c m b).number ≡ 0
  unfolding thin_call
  thin-taken b x h e = rw (eq-eqb _ 7 h) (λ d. (step_report (answered_by (e d)) (step_of unpriced stand b).bytes 0).number)

  thin-lost : (b : List ℕ) (q : Refusal) → length a ≡ 7 → step_of unpriced stand b ≡ (record { outcome = lost q (dropped stand); bytes = 0; buffer = b }) → thin_call r a c m b ≡ told r (report 3 q 0 0 0) (dropped stand) b
  unfolding thin_call
  thin-lost b q h e = rw (eq-eqb _ 7 h) (ap (thin_gives r stand) e)

  thin_by : (b : List ℕ) (s : Stepped) → length a ≡ 7 → step_of unpriced stand b ≡ s → M.StepRefused stand b s → ThinTurned b (thin_call r a c m b)
  thin_by b _ h e (M.unchanged {r = q}) = subst (ThinTurned b) (sym (thin-kept r a c m b h q (ap (λ (s : Stepped). s.outcome) e))) (unchanged q)
  thin_by b _ h e (M.word_dropped {r = q} k) = subst (ThinTurned b) (sym (thin-lost b q h e)) (word_dropped q k)

  pub thin-whole : (b : List ℕ) → ((thin_call r a c m b).number ≡ 0 → ⊥) → ThinTurned b (thin_call r a c m b)
  thin-whole b z = go (eqb (length a) 7) refl
    where
      go : (t : Bool) → eqb (length a) 7 ≡ t → ThinTurned b (thin_call r a c m b)
      go true h = let l = eqb-true (length a) 7 h in thin_by b (step_of unpriced stand b) l refl (M.step-refused unpriced stand b (λ x e. z (thin-taken b x l e)))
      go false h = subst (ThinTurned b) (thin_misfits r a c m b (eqb-false (length a) 7 h)) misfit_stays
