-- step over a register record, where the answer has seven words and where it has not; it is the step over words. Assumes nothing.
use mathlib.Core.Path.{◌≡◌, refl, sym, ap, ◌∙◌}
use mathlib.Core.Bool.{Bool, true, false}
use mathlib.Core.List.{List, [], ◌∷◌, ◌++◌}
use Prim.Native.Nat.{ℕ, ◌<◌}
use lib.ListN.{length, length-append}
use lib.Dec.{eqb, ltb}
use borrow.Author.Tests.{eq-eqb, ne_eqb, lt-ltb}
use Rattle.machine.specs.declared.state.VMState.{VMState}
use Rattle.choices.specs.Choice.{cond}
use Rattle.machine.specs.Refusal.{Refusal}
use Rattle.machine.specs.Apply.{kept}
use Rattle.machine.specs.FeeTable.{unpriced}
use Rattle.machine.specs.Decide.{decide_of}
use Rattle.machine.specs.Machine.{Code, Memory, Machine, machine}
use Rattle.machine.specs.Step.{Stepped as Outcomes, step_of}
use Rattle.machine.proofs.Step.{refused_buffer}
use Rattle.machine_perform.specs.declared.answer.Stepped.{Stepped}
use Rattle.machine_perform.specs.AnswerView.{answer_in, answered_by, left_by}
use Rattle.machine_vm.specs.StepView.{Steps}
use Rattle.exports_words.specs.declared.report.Report.{Report}
use Rattle.exports_calls.specs.declared.thin.Registers.{Registers}
use Rattle.exports_words.specs.Registers.{mark, registers_of, readable_of}
use Rattle.exports_words.specs.Report.{report, misfit, answer_of, said_of, step_report}
use Rattle.exports_words.specs.Calls.{Recorded, called, recorded, reported, fits_of}
use Rattle.exports_calls.specs.StepCall.{step_gives, step_call}
use Rattle.exports_calls.specs.ThinCall.{state_in, registers_in, Thin, thinly, told, thin_gives, thin_call}
use Rattle.exports_words.proofs.RegistersLaws.{state_registers}
use Rattle.exports_calls.proofs.StepCallLaws.{none_named}

module _ (r : Registers) (a : List ℕ) (c : Code) (m : Memory) (b : List ℕ) where
  pub thin-called : {s : VMState} {x : Stepped} {n : Memory} {b2 : List ℕ} {p : Report} {a2 : List ℕ} {r2 : Registers} → length a ≡ 7 → s ≡ state_in r →
      Steps unpriced (machine s c m) b x n b2 → p ≡ step_report (answer_in x.answer) x.bytes 0 → a2 ≡ answer_of 7 p → r2 ≡ registers_in r x.state →
      thinly p.number r2 a2 n b2 ≡ thin_call r a c m b
  unfolding thin_call
  thin-called {s} {x} {n} {b2} h f k i j l =
      rw (eq-eqb _ 7 h)
      ((λ d. thinly (i d).number (l d) ((j ∙ ap (answer_of 7) i) d) n (k.buffer d))
      ∙ (λ d. told r (step_report (k.gives.answer d) (k.bytes d) 0) (k.gives.left d) (step_of unpriced (machine s c m) b).buffer)
      ∙ ap (λ (y : VMState). thin_gives r (machine y c m) (step_of unpriced (machine y c m) b)) f)

  pub thin_misfits : (length a ≡ 7 → ⊥) → thinly 1 r a m b ≡ thin_call r a c m b
  unfolding thin_call
  thin_misfits h = rw (ne_eqb _ 7 h)

  -- refused at any place, but for skiz that has dropped its word: the record and all that is lent stay
  pub thin-kept : length a ≡ 7 → (q : Refusal) → (step_of unpriced (machine (state_in r) c m) b).outcome ≡ kept q → thin_call r a c m b ≡ thinly q.number r (answer_of 7 (report 3 q 0 0 0)) m b
  unfolding thin_call
  thin-kept h q e =
      let k = refused_buffer decide_of unpriced (machine (state_in r) c m) b q e in
      rw (eq-eqb _ 7 h) (λ d. told r (step_report (answered_by (e d)) (k.0 d) 0) (left_by (machine (state_in r) c m) (e d)) (k.1 d))

-- ---- over words

-- what the call over words gives, from what the one over a record gives
abbrev pub words_of : Thin → Recorded
words_of t = recorded (called t.number (registers_of (state_in t.registers)) t.answer t.memory) t.buffer

small-mark : (t : Bool) → ltb (mark t) 2 ≡ true
small-mark true = refl
small-mark false = refl

long_enough : (w : List ℕ) (x : ℕ) → length w ≡ 16 → length (w ++ (x ∷ [])) ≡ 17
long_enough w x h = length-append w (x ∷ []) ∙ rw h

-- the words of a record can be read
readable : (r : Registers) → r.clock < 4294967296 → length r.words ≡ 16 → readable_of (registers_of (state_in r)) ≡ true
unfolding readable_of registers_of
readable r small long = rw (long_enough r.words r.revision long, lt-ltb r.clock 4294967296 small, small-mark r.halted, small-mark r.set)

-- neither names a row
stepped-words : (r : Registers) (x : Machine) (s : Outcomes) → step_gives unpriced x s ≡ words_of (thin_gives r x s)
stepped-words r x s = ap (λ (i : ℕ). recorded (reported 7 (step_report (answered_by s.outcome) s.bytes i) (left_by x s.outcome).state (left_by x s.outcome).memory) s.buffer) (sym (none_named x s.outcome))

either : (t : Bool) (r : Registers) (a : List ℕ) (m : Memory) (b : List ℕ) (x : Machine) (s : Outcomes) →
    cond t (step_gives unpriced x s) (recorded (called 1 (registers_of (state_in r)) (cond t (answer_of 7 misfit) a) m) b) ≡ words_of (cond t (thin_gives r x s) (thinly 1 r a m b))
either true r a m b x s = stepped-words r x s
either false r a m b x s = refl

-- a clock of 32 bits and sixteen words are what the record's types say
pub thin-words : (r : Registers) (a : List ℕ) (c : Code) (m : Memory) (b : List ℕ) → r.clock < 4294967296 → length r.words ≡ 16 →
    step_call unpriced (registers_of (state_in r)) a c m b ≡ words_of (thin_call r a c m b)
unfolding step_call thin_call fits_of said_of
thin-words r a c m b small long =
    rw (readable r small long, state_registers (state_in r) long)
    (either (eqb (length a) 7) r a m b (machine (state_in r) c m) (step_of unpriced (machine (state_in r) c m) b))
