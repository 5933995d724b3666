-- A call that is refused gives the refusal's number and words, and changes nothing that is lent: where the slices do not fit, and where place A
-- or the fee table refuses. A step so refused at a later place, too, and a replay at any. Assumes nothing.
use mathlib.Core.Path.{◌≡◌, refl, sym, ap, ◌∙◌}
use mathlib.Core.Bool.{true, false}
use mathlib.Core.List.{List, [], ◌∷◌}
use Prim.Native.Nat.{ℕ}
use borrow.Author.Tests.{eq-eqb}
use lib.ListN.{length, replicate}
use Rattle.machine.specs.Refusal.{Refusal}
use Rattle.machine.specs.Ram.{Cells}
use Rattle.machine.specs.Machine.{Code, Memory, Machine, machine}
use Rattle.machine.specs.Apply.{kept, lost}
use Rattle.machine.specs.PlaceA.{machine_a, step_a, open_a}
use Rattle.machine.specs.FeeTable.{Fees, checked}
use Rattle.machine.specs.Fee.{fee_from, row_named}
use Rattle.machine.specs.Decide.{decide_of}
use Rattle.machine.specs.Step.{Stepped, step_of}
use Rattle.machine_log.proofs.Logged.{logged_none}
use Rattle.machine.proofs.Step.{refused_buffer, lost_buffer}
use Rattle.machine.proofs.Refused.{step-refuses, open_refuses}
use Rattle.machine.proofs.Refused as G
use Rattle.machine.proofs.Run.{call-refuses}
use Rattle.replay.specs.Replay.{replay_of}
use Rattle.replay.proofs.Refused as R
use Rattle.machine.specs.Records.{log_bytes}
use Rattle.machine.specs.Path.{Path, stays, refused, unlogged, bytes, tabled as tabled_in, log_from}
use Rattle.machine.specs.Run.{call_a}
use Rattle.machine.specs.ProcessorRow.{rows_from}
use Rattle.machine.specs.Given.{Given, given, given_of}
use Rattle.machine_perform.specs.AnswerView.{answered_by, left_by}
use Rattle.exports_words.specs.Registers.{state_of}
use Rattle.exports_words.specs.Report.{report, answer_words, answer_of, step_report}
use Rattle.exports_words.specs.Calls.{Called, called, recorded, tabled, fits_of, misfitted, reported}
use Rattle.exports_calls.specs.StepCall.{step_call}
use Rattle.exports_calls.specs.RunCall.{run_gives, run_call, trace_gives, trace_call, rows_gives, rows_call}
use Rattle.exports_calls.specs.OpenCall.{open_fits_of, open_gives, open_call}
use Rattle.exports_calls.specs.GivenCall.{zeroed, given_call}
use Rattle.exports_calls.specs.ReplayCall.{replied, replay_call}
use Rattle.exports_words.proofs.RegistersLaws.{registers_state}
use Rattle.exports_words.proofs.CallsLaws.{fits_facts}

-- what a call gives that is refused before a step; its answer has k words
abbrev pub refused_call : ℕ → List ℕ → Memory → Refusal → Called
refused_call k w m r = called r.number w (answer_of k (report 3 r 0 0 0)) m

-- ---- slices that do not fit

module _ (f : Fees) (w a : List ℕ) (c : Code) (m : Memory) (h : fits_of w a (answer_words f) ≡ false) where
  pub step-misfit : (b : List ℕ) → step_call f w a c m b ≡ recorded (misfitted (answer_words f) w a m) b
  unfolding step_call
  step-misfit b = rw h

  pub run-misfit : (budget : ℕ) → run_call f budget w a c m ≡ misfitted (answer_words f) w a m
  unfolding run_call
  run-misfit budget = rw h

  pub trace-misfit : (budget : ℕ) (b : List ℕ) → trace_call f budget w a c m b ≡ recorded (misfitted (answer_words f) w a m) b
  unfolding trace_call
  trace-misfit budget b = rw h

  pub rows-misfit : (budget : ℕ) (b t : List ℕ) → rows_call f budget w a c m b t ≡ tabled (recorded (misfitted (answer_words f) w a m) b) t
  unfolding rows_call
  rows-misfit budget b t = rw h

pub open_misfit : (f : Fees) (w a : List ℕ) (v : ℕ) (g : List ℕ) (n : ℕ) (c : Code) (m : Memory) → open_fits_of w a g ≡ false → open_call f w a v g n c m ≡ misfitted 7 w a m
unfolding open_call
open_misfit f w a v g n c m h = rw h

pub given-misfit : (k : ℕ) (f : Machine → Given) (w v : List ℕ) (c : Code) (m : Memory) → fits_of w v k ≡ false → given_call k f w v c m ≡ given 1 (zeroed k v)
unfolding given_call
given-misfit k f w v c m h = rw h

-- ---- refused

module _ (f : Fees) (w a : List ℕ) (c : Code) (m : Memory) (h : fits_of w a (answer_words f) ≡ true) where
  abbrev from : Machine
  from = machine (state_of w) c m

  -- the words of the registers are those of the state that was read from them
  pub same : (r : Refusal) → reported (answer_words f) (report 3 r 0 0 0) (state_of w) m ≡ refused_call (answer_words f) w m r
  same r = ap (λ (x : List ℕ). called r.number x (answer_of (answer_words f) (report 3 r 0 0 0)) m) (registers_state w (fits_facts w a (answer_words f) h).registers)

  -- at any place, but for skiz that has dropped its word
  pub step_kept : (b : List ℕ) (r : Refusal) → (step_of f (machine (state_of w) c m) b).outcome ≡ kept r → step_call f w a c m b ≡ recorded (refused_call (answer_words f) w m r) b
  unfolding step_call
  step_kept b r e =
      let k = refused_buffer decide_of f (machine (state_of w) c m) b r e in
      rw h
      ((λ d. recorded (reported (answer_words f) (step_report (answered_by (e d)) (k.0 d) (row_named f (machine (state_of w) c m) (e d))) (left_by (machine (state_of w) c m) (e d)).state (left_by (machine (state_of w) c m) (e d)).memory) (k.1 d))
      ∙ ap (λ (x : Called). recorded x b) (same r))

  -- skiz that has dropped its word: the registers and the op stack are those with the word dropped
  pub step-lost : (b : List ℕ) (r : Refusal) (x : Machine) → (step_of f (machine (state_of w) c m) b).outcome ≡ lost r x →
      step_call f w a c m b ≡ recorded (reported (answer_words f) (report 3 r 0 0 0) x.state x.memory) b
  unfolding step_call
  step-lost b r x e =
      let k = lost_buffer decide_of f (machine (state_of w) c m) b r x e in
      rw h
      (λ d. recorded (reported (answer_words f) (step_report (answered_by (e d)) (k.0 d) (row_named f (machine (state_of w) c m) (e d))) (left_by (machine (state_of w) c m) (e d)).state (left_by (machine (state_of w) c m) (e d)).memory) (k.1 d))

  pub step-refused : (b : List ℕ) → ((checked f (step_a (machine (state_of w) c m) b)).number ≡ 0 → ⊥) → step_call f w a c m b ≡ recorded (refused_call (answer_words f) w m (checked f (step_a (machine (state_of w) c m) b))) b
  step-refused b z = step_kept b _ (ap (λ (x : Stepped). x.outcome) (step-refuses decide_of f (machine (state_of w) c m) b z))

  -- what a call gives that is refused at once: it has written neither records nor rows, and costs nothing
  pub run-same : (r : Refusal) → run_gives f from (stays (refused r) from) 0 ≡ refused_call (answer_words f) w m r
  unfolding fee_from
  run-same r = same r

  pub trace-same : (b : List ℕ) (r : Refusal) → trace_gives f b from (stays (refused r) from) ≡ recorded (refused_call (answer_words f) w m r) b
  unfolding log_from log_bytes fee_from
  trace-same b r = λ d. recorded (same r d) (sym (logged_none b 0) d)

  pub rows_same : (b t : List ℕ) (r : Refusal) → rows_gives f b t from (stays (refused r) from) ≡ tabled (recorded (refused_call (answer_words f) w m r) b) t
  unfolding rows_from
  rows_same b t r = λ d. tabled (trace-same b r d) (sym (logged_none t 0) d)

  pub run-refused : (budget : ℕ) → ((checked f (call_a unlogged from)).number ≡ 0 → ⊥) → run_call f budget w a c m ≡ refused_call (answer_words f) w m (checked f (call_a unlogged from))
  unfolding run_call
  run-refused budget z = rw h (ap (λ (p : Path). run_gives f from p 0) (call-refuses decide_of f unlogged budget from z) ∙ run-same (checked f (call_a unlogged from)))

  pub trace-refused : (budget : ℕ) (b : List ℕ) → ((checked f (call_a (bytes (length b)) from)).number ≡ 0 → ⊥) →
      trace_call f budget w a c m b ≡ recorded (refused_call (answer_words f) w m (checked f (call_a (bytes (length b)) from))) b
  unfolding trace_call
  trace-refused budget b z = rw h (ap (trace_gives f b from) (call-refuses decide_of f (bytes (length b)) budget from z) ∙ trace-same b (checked f (call_a (bytes (length b)) from)))

  pub rows-refused : (budget : ℕ) (b t : List ℕ) → ((checked f (call_a (tabled_in (length b) (length t)) from)).number ≡ 0 → ⊥) →
      rows_call f budget w a c m b t ≡ tabled (recorded (refused_call (answer_words f) w m (checked f (call_a (tabled_in (length b) (length t)) from))) b) t
  unfolding rows_call
  rows-refused budget b t z = rw h (ap (rows_gives f b t from) (call-refuses decide_of f (tabled_in (length b) (length t)) budget from z) ∙ rows_same b t (checked f (call_a (tabled_in (length b) (length t)) from)))

pub open_refused : (f : Fees) (w a : List ℕ) (v : ℕ) (g : List ℕ) (n : ℕ) (c : Code) (m : Memory) → open_fits_of w a g ≡ true → ((checked f (open_a v g c m n)).number ≡ 0 → ⊥) →
    open_call f w a v g n c m ≡ refused_call 7 w m (checked f (open_a v g c m n))
unfolding open_call
open_refused f w a v g n c m h z = rw h (ap (open_gives w m) (open_refuses f v g c m n z))

-- helper variables, and the row
pub given-refused : (k : ℕ) (f : Machine → List ℕ) (w v : List ℕ) (c : Code) (m : Memory) → fits_of w v k ≡ true → (machine_a (machine (state_of w) c m) ≡ 0 → ⊥) →
    given_call k (λ x. given_of x k (f x)) w v c m ≡ given (machine_a (machine (state_of w) c m)) (replicate k 0)
unfolding given_call
given-refused k f w v c m h z = rw h (G.given-refused (machine (state_of w) c m) k (f (machine (state_of w) c m)) z)

-- at any place: depth and cell count are 0, and the stack slice and the RAM slices stay
pub replay_refused : (a log s : List ℕ) (v j : ℕ) (c : Cells) → length a ≡ 3 → ((replay_of v log c s j).number ≡ 0 → ⊥) →
    replay_call a log v j c s ≡ replied (replay_of v log c s j).number ((replay_of v log c s j).number ∷ 0 ∷ 0 ∷ []) s c.addresses c.values
unfolding replay_call
replay_refused a log s v j c h z =
    let u = R.replay_refused v log c s j z in
    let n = (replay_of v log c s j).number in
    rw (eq-eqb (length a) 3 h) (λ d. replied n (n ∷ u.depth d ∷ u.count d ∷ []) (u.words d) (u.addresses d) (u.values d))
