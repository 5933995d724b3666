-- One turn of the loop of run, trace_execution and trace_rows, and its ends. Assumes nothing.
use mathlib.Core.Path.{◌≡◌, refl, sym, ap, subst, ◌∙◌}
use mathlib.Core.Bool.{Bool, true, false, true≢false}
use mathlib.Core.List.{List, [], ◌∷◌, ◌++◌, append_assoc, append-nil}
use Prim.Native.Nat.{ℕ, suc, zero-le, ◌+◌, ◌-◌, ◌*◌, ◌≤◌, ◌<◌}
use native.Mathlib.Omega.{arith}
use borrow.Author.Tests.{ltb-false, le-ltb}
use lib.ListN.{length, take, drop, length-append, length-drop}
use lib.Dec.{eqb, ltb}
use Rattle.std.specs.Prelude.{Result, Ok, Err, IsErrAnd, Option, Some, None}
use Rattle.machine.specs.declared.refusal.InstructionError.{InstructionError}
use Rattle.machine.specs.declared.state.VMState.{VMState}
use Rattle.machine.specs.declared.lent.LentMemory.{LentMemory}
use Rattle.machine.specs.Lent.{Keeps}
use Rattle.choices.specs.Choice.{cond}
use Rattle.machine.specs.Refusal.{Refusal, refusal_of}
use Rattle.machine.specs.Machine.{Code, Memory, memory, Machine, machine}
use Rattle.machine.specs.Decide.{opcode_of, decide_of}
use Rattle.machine.specs.Apply.{Outcome, took, kept, lost, settled, performed}
use Rattle.machine.specs.Records.{log_bytes, stack_records}
use Rattle.machine.specs.Step.{records_in, stepped_by, outcome_by}
use Rattle.machine.specs.Lengths.{longest, clock_bytes, most_bytes}
use Rattle.machine.specs.ProcessorRow.{row_of, rows_from}
use Rattle.machine.specs.Fee.{fee_from}
use Rattle.machine.specs.Path.{the_log, the_table, Ending, halted, spent, full, refused, Path, path, count, stays, onward, Left, lacks, Space, too_little, full_of, behind, step_log, path_by, log_from}
use Rattle.machine.specs.Sound.{Sound}
use Rattle.machine.proofs.Facts.{facts}
use Rattle.machine.proofs.OpStack.{applied_length}
use Rattle.machine.proofs.Preserved.{limits_fit}
use Rattle.machine.proofs.Fee.{Priced, took-priced, step_clock}
use Rattle.machine.proofs.FeeTable.{known_low}
use Rattle.machine.proofs.Records.{log-append}
use Rattle.machine.proofs.Step.{Took as TookBy, step-took, step-sound, step_revision}
use Rattle.machine.proofs.StepBytes.{stack_records_length, step-few}
use Rattle.machine.proofs.Path.{path-halted, path-full, path_on}
use Rattle.machine.proofs.ProcessorRow.{row-length}
use Rattle.machine_log.specs.Logged.{logged}
use Rattle.machine_log.proofs.Logged.{logged_none, logged-front, logged-logged, logged_back}
use Rattle.machine_perform.specs.declared.answer.Stepped.{Stepped}
use Rattle.machine_perform.specs.AnswerView.{did, turned, answer_in, Gives}
use Rattle.machine_quick.specs.declared.quick.QuickStep.{QuickStep}
use Rattle.machine_quick.proofs.QuickLaws as Q
use Rattle.machine_quick.specs.QuickView.{onward_to, StepsTo, with_stack, Walking, Taken, Quicked}
use Rattle.machine_rows.specs.RowView.{RowTaken, RowPut}
use Rattle.machine_step.specs.AdvanceView.{advanced_by, Advanced}
use Rattle.machine_step.specs.RecordsView.{RoomyAt, RecordedAt}
use Rattle.machine_steps.specs.declared.answer.Ending.{Ending as EndingIn}
use Rattle.machine_steps.specs.declared.answer.Ending.TheVariants as E
use Rattle.machine_steps.specs.declared.answer.Ran.{Ran}
use Rattle.machine_steps.specs.RanView.{ending_in, end_of, RanOn}
use Rattle.machine_steps.specs.StepsView.{PricedAt, Pricing, left_of, space_of, short_of, end_full, own_log, log_of, own_row, rows_of, StandingAt, log_in, answer_of, SteppedAt}

-- ---- the log

-- a step from m to x, whose log is of the same revision
pub log-more : (t : Bool) (m x : Machine) (ms : List Machine) → outcome_by decide_of m ≡ took x → log_of t m (x ∷ ms) ≡ own_log t m ++ log_of t x ms
unfolding log_from step_log
log-more true m x ms e =
    log-append m.state.revision (records_in m (decide_of m)) (log_from decide_of x ms)
    ∙ ap (λ (v : ℕ). log_bytes m.state.revision (records_in m (decide_of m)) ++ log_bytes v (log_from decide_of x ms)) (sym (step_revision decide_of m x e))
log-more false m x ms e = refl

log-none : (t : Bool) (m : Machine) → log_of t m [] ≡ []
unfolding log_from log_bytes
log-none true m = refl
log-none false m = refl

-- the rows are read off the path as the log is
row_more : (u : Bool) (m x : Machine) (ms : List Machine) → rows_of u m (x ∷ ms) ≡ own_row u m ++ rows_of u x ms
unfolding rows_from
row_more true m x ms = refl
row_more false m x ms = refl

row-none : (u : Bool) (m : Machine) → rows_of u m [] ≡ []
unfolding rows_from
row-none true m = refl
row-none false m = refl

space-behind : (t u : Bool) (room words : ℕ) (m : Machine) → behind (space_of t u room words) (step_log decide_of m) ≡ space_of t u (room - length (own_log t m)) (words - length (own_row u m))
space-behind t u room words m = go t u
  where
    go : (t u : Bool) → behind (space_of t u room words) (step_log decide_of m) ≡ space_of t u (room - length (own_log t m)) (words - length (own_row u m))
    go true true = ap (λ (i : ℕ). space_of true true (room - length (step_log decide_of m)) (words - i)) (sym (row-length m))
    go true false = refl
    go false true = ap (λ (i : ℕ). space_of false true room (words - i)) (sym (row-length m))
    go false false = refl

-- ---- a step by its outcome

advanced-outcome : {t : Bool} {m : Machine} {b b2 : List ℕ} {r : Stepped} {n : Memory} → Advanced t m b r n b2 → Gives m (outcome_by decide_of m) r.answer (machine r.state m.code n)
unfolding outcome_by
advanced-outcome {t} {m} {b} {b2} {r} {n} a = go (settled m (decide_of m)) refl
  where
    go : (o : Outcome) → settled m (decide_of m) ≡ o → Gives m (settled m (decide_of m)) r.answer (machine r.state m.code n)
    go (took x) e = rw e (rw e at a.gives)
    go (kept x) e = rw e (rw e at a.gives)
    go (lost x y) e = rw e (rw e at a.gives)

advanced-log : (t : Bool) (m : Machine) (b : List ℕ) → ((advanced_by t m b (decide_of m)).bytes ≡ length (log_in (own_log t m) (outcome_by decide_of m))) × ((advanced_by t m b (decide_of m)).buffer ≡ logged b 0 (log_in (own_log t m) (outcome_by decide_of m)))
unfolding outcome_by step_log
advanced-log t m b = go (cond t (log_bytes m.state.revision (records_in m (decide_of m))) []) (settled m (decide_of m))
  where
    go : (own : List ℕ) (o : Outcome) → ((stepped_by b own o).bytes ≡ length (log_in own o)) × ((stepped_by b own o).buffer ≡ logged b 0 (log_in own o))
    go own (took x) = (refl, sym (logged-front b own))
    go own (kept r) = (refl, logged_none b 0)
    go own (lost r x) = (refl, logged_none b 0)

-- the same behind place `at` of the log b, which becomes b2
pub record AdvancedAt (t : Bool) (m : Machine) (b : List ℕ) (at : ℕ) (r : Stepped) (n : Memory) (b2 : List ℕ) : Type 0 where
  pub gives : Gives m (outcome_by decide_of m) r.answer (machine r.state m.code n)
  pub bytes : r.bytes ≡ length (log_in (own_log t m) (outcome_by decide_of m))
  pub buffer : b2 ≡ logged b at (log_in (own_log t m) (outcome_by decide_of m))

pub advanced-at : {t : Bool} {m : Machine} {b ys : List ℕ} {at : ℕ} {r : Stepped} {n : Memory} → at ≤ length b → Advanced t m (take (length b - at) (drop at b)) r n ys →
    AdvancedAt t m b at r n (take at b ++ (ys ++ drop (length b - at) (drop at b)))
advanced-at {t} {m} {b} {ys} {at} {r} {n} h a =
    let k = advanced-log t m (take (length b - at) (drop at b)) in
    record {
      gives = advanced-outcome a;
      bytes = a.bytes ∙ k.0;
      buffer = logged_back b ys (log_in (own_log t m) (outcome_by decide_of m)) at h (a.buffer ∙ k.1);
    }

took-log : (m x : Machine) → Sound m → outcome_by decide_of m ≡ took x → length (step_log decide_of m) ≤ most_bytes m.state.revision
unfolding step_log
took-log m x s h = of (step-took decide_of m x h)
  where
    of : TookBy m (decide_of m) x → length (log_bytes m.state.revision (records_in m (decide_of m))) ≤ most_bytes m.state.revision
    of k = rw k.acting (step-few m s k.effect k.acting)

-- a step's stack records, as what it writes
moved-log : (t : Bool) (m : Machine) (r : QuickStep) (n : Memory) → StepsTo m r n → cond t (log_bytes m.state.revision (stack_records m.state.clock n.op_stack n.op_stack m.state.depth r.depth)) [] ≡ own_log t m
unfolding step_log
moved-log t m r n s = rw s.records

-- a step that is taken keeps the op stack's length
took-stack : (m x : Machine) → Sound m → outcome_by decide_of m ≡ took x → length x.memory.op_stack ≡ length m.memory.op_stack
unfolding performed
took-stack m x s h = of (step-took decide_of m x h)
  where
    of : TookBy m (decide_of m) x → length x.memory.op_stack ≡ length m.memory.op_stack
    of k =
        let f = facts m s k.effect k.acting in
        let l = limits_fit m k.effect k.limits in
        ap (λ (y : Machine). length y.memory.op_stack) (sym k.is)
        ∙ applied_length m.memory.op_stack k.effect.words m.state.depth k.effect.pops (omega (arith, f.pops, s.deep)) s.op_stack.used l.depth

-- ---- a quick step is lent the op stack to change, and of the rest what it looks at

abbrev bare : Machine → Machine
bare m = machine m.state m.code (memory m.memory.op_stack m.memory.origins m.memory.destinations m.memory.addresses m.memory.values [])

pub walks_bare : {m : Machine} → Walking m → Walking (bare m)
walks_bare = Q.walks_bare

abbrev with_output : Memory → List ℕ → Memory
with_output n x = memory n.op_stack n.origins n.destinations n.addresses n.values x

pub quick_lent : (m : Machine) (r : Option QuickStep) (n : Memory) → Quicked (bare m) r n → Quicked m r (with_output n m.memory.output)
quick_lent = Q.quick_lent

-- ---- one step behind place `at` of the log

-- what is written where it is asked for fits, as the most does
own-there : (t : Bool) (own : List ℕ) (at most room : ℕ) → length own ≤ most → at ≤ room → (t ≡ true → at + most ≤ room) → at + length (cond t own []) ≤ room
own-there true own at most room l h k = let z = k refl in omega arith
own-there false own at most room l h k = omega arith

module _ {t : Bool} {m : Machine} {b : List ℕ} {at : ℕ} (h : StandingAt t m b at) where
  own-within : (x : Machine) → outcome_by decide_of m ≡ took x → at + length (own_log t m) ≤ length b
  own-within x e = own-there t (step_log decide_of m) at (most_bytes m.state.revision) (length b) (took-log m x h.sound e) h.within h.room

  -- a quick one: the machine that is lent is one of those that are alike
  pub quick_taken : {r : QuickStep} {n : Memory} → Taken m r n → StepsTo m r n
  quick_taken {r} {n} k = subst (λ (y : Memory). StepsTo m r y) (sym k.rest) (k.steps m.code.digests m.memory.output h.sound)

  module _ {r : QuickStep} {n : Memory} (y : StepsTo m r n) where
    quick-sound : Sound (machine (onward_to m.state r) m.code n)
    quick-sound = step-sound decide_of facts m _ h.sound y.outcome

    pub quick_room : RoomyAt t n.op_stack b at m.state.depth r.depth
    unfolding step_log
    quick_room =
        let len = took-stack m _ h.sound y.outcome in
        let small = rw y.records at (took-log m _ h.sound y.outcome) in
        let size = stack_records_length m.state.revision m.state.clock n.op_stack n.op_stack m.state.depth r.depth in
        record {
          deep = λ _. record { low = h.sound.deep; low2 = quick-sound.deep; high = omega (arith, len, h.sound.op_stack.used); high2 = quick-sound.op_stack.used };
          room = λ z. omega (arith, size, small, h.room z);
        }

    pub quick_clock : m.state.clock + 1 < 4294967296
    quick_clock = quick-sound.clock

    pub quick_stepped : {next : ℕ} {b2 : List ℕ} → RecordedAt t b b2 at (stack_records m.state.clock n.op_stack n.op_stack m.state.depth r.depth) next →
        SteppedAt t m b at (Ok next) (onward_to m.state r) n b2
    quick_stepped z =
        let l = moved-log t m r n y in
        record {
          gives = rw y.outcome (record { answer = refl; left = refl });
          place = z.place m.state.revision ∙ ap (λ (i : List ℕ). at + length i) l;
          buffer = z.buffer m.state.revision ∙ rw y.outcome (ap (logged b at) l);
        }

  -- any other
  module _ {r : Stepped} {n : Memory} {ys : List ℕ} (a : Advanced t m (take (length b - at) (drop at b)) r n ys) where
    -- the log behind it
    abbrev after : List ℕ
    after = take at b ++ (ys ++ drop (length b - at) (drop at b))

    advanced : AdvancedAt t m b at r n after
    advanced = advanced-at h.within a

    -- one that is taken
    went : r.answer ≡ Ok tt → (outcome_by decide_of m ≡ took (machine r.state m.code n)) × (r.bytes ≡ length (own_log t m)) × (after ≡ logged b at (own_log t m))
    went k = go (outcome_by decide_of m) refl
      where
        go : (o : Outcome) → outcome_by decide_of m ≡ o → (outcome_by decide_of m ≡ took (machine r.state m.code n)) × (r.bytes ≡ length (own_log t m)) × (after ≡ logged b at (own_log t m))
        go (took z) e = let l : machine r.state m.code n ≡ z = rw e at advanced.gives.left in (e ∙ ap took (sym l), rw e at advanced.bytes, rw e at advanced.buffer)
        go (kept z) e = let c = sym (ap answer_in k) ∙ (rw e at advanced.gives.answer) in let v : ◌≡◌ {A = ℕ} 0 1 = cc in absurd (omega arith)
        go (lost z x) e = let c = sym (ap answer_in k) ∙ (rw e at advanced.gives.answer) in let v : ◌≡◌ {A = ℕ} 0 1 = cc in absurd (omega arith)

    pub advanced_fits : r.answer ≡ Ok tt → at + r.bytes ≤ length b
    advanced_fits k = let w = went k in omega (arith, w.1, own-within _ w.0)

    pub advanced_stepped : r.answer ≡ Ok tt → SteppedAt t m b at (Ok (at + r.bytes)) r.state n after
    advanced_stepped k =
        let w = went k in
        record {
          gives = rw k at advanced.gives;
          place = ap (λ (i : ℕ). at + i) w.1;
          buffer = advanced.buffer;
        }

    pub advanced-refused : {e : InstructionError} (x : Result ℕ InstructionError) → r.answer ≡ Err e → IsErrAnd x (λ y. y ≡ e) → SteppedAt t m b at x r.state n after
    advanced-refused (Ok next) k h = absurd h
    advanced-refused (Err y) k h = rw h (record { gives = rw k at advanced.gives; place = _; buffer = advanced.buffer })

-- ---- what the steps write, one behind the other

-- `all m ms` is what the steps from m through ms write. That of the steps from m0 to m, done, stands from the start of b0 on, and `at` is the place behind it
pub record Written (all : Machine → List Machine → List ℕ) (b0 : List ℕ) (m0 m : Machine) (done : List Machine) (at : ℕ) (b : List ℕ) : Type 0 where
  pub text : List ℕ
  pub place : at ≡ length text
  pub fits : length text ≤ length b0
  pub buffer : b ≡ logged b0 0 text
  pub writes : (ms : List Machine) → all m0 (done ++ ms) ≡ text ++ all m ms

written_none : (all : Machine → List Machine → List ℕ) (b : List ℕ) (m : Machine) → Written all b m m [] 0 b
written_none all b m = record { text = []; place = refl; fits = omega arith; buffer = logged_none b 0; writes = λ ms. refl }

logged-length : (b r : List ℕ) → length r ≤ length b → length (logged b 0 r) ≡ length b
logged-length b r h = ap length (logged-front b r) ∙ simp (length-append, length-drop) (omega arith)

module _ {all : Machine → List Machine → List ℕ} {b0 : List ℕ} {m0 m : Machine} {done : List Machine} {at : ℕ} {b : List ℕ} (s : Written all b0 m0 m done at b) where
  written-length : length b ≡ length b0
  written-length = ap length s.buffer ∙ logged-length b0 s.text s.fits

  written_within : at ≤ length b
  written_within = omega (arith, s.place, s.fits, written-length)

  -- a step to x that writes `own`
  written-more : {x : Machine} {next : ℕ} {b2 : List ℕ} (own : List ℕ) → ((ms : List Machine) → all m (x ∷ ms) ≡ own ++ all x ms) → length own ≤ length b - at → next ≡ at + length own → b2 ≡ logged b at own →
      Written all b0 m0 x (done ++ (x ∷ [])) next b2
  written-more {x} {next} {b2} own more small q w =
      let lens : length (s.text ++ own) ≡ length s.text + length own = length-append s.text own in
      record {
        text = s.text ++ own;
        place = omega (arith, q, lens, s.place);
        fits = omega (arith, lens, small, written-length, s.place, s.fits);
        buffer = w ∙ ap (λ (y : List ℕ). logged y at own) s.buffer ∙ logged-logged b0 s.text own 0 at (omega arith) (omega (arith, s.place));
        writes = λ ms.
            ap (all m0) (append_assoc done (x ∷ []) ms)
            ∙ s.writes (x ∷ ms)
            ∙ ap (λ (i : List ℕ). s.text ++ i) (more ms)
            ∙ sym (append_assoc s.text own (all x ms));
      }

  -- where no step is left it is all of them
  written_all : {ms : List Machine} → all m [] ≡ [] → done ++ [] ≡ ms → s.text ≡ all m0 ms
  written_all e u = sym (append-nil s.text) ∙ ap (λ (i : List ℕ). s.text ++ i) (sym e) ∙ sym (s.writes []) ∙ ap (all m0) u

-- ---- the loop

-- the machines ms, and behind them the path p
abbrev ahead : List Machine → Path → Path
ahead ms p = path (ms ++ p.machines) p.left p.dropped p.ending

-- the whole path
abbrev whole : Bool → Bool → ℕ → List ℕ → List ℕ → Machine → Path
whole t u budget b0 w0 m0 = path_by decide_of (space_of t u (length b0) (length w0)) budget m0

-- what the code gives at the end
abbrev pub Ended : Bool → Bool → (ℕ → ℕ) → ℕ → List ℕ → List ℕ → Machine → Code → Ran → Memory → List ℕ → List ℕ → Type 0
Ended t u price budget b0 w0 m0 c r n b2 w2 =
    RanOn (whole t u budget b0 w0 m0) (fee_from price m0 (whole t u budget b0 w0 m0).machines) (log_of t m0 (whole t u budget b0 w0 m0).machines) (rows_of u m0 (whole t u budget b0 w0 m0).machines) c b0 w0 r n b2 w2

-- no step is left of the budget
path-none : (s : Space) (m : Machine) → path_by decide_of s 0 m ≡ stays (ending_in (end_of m.state.halted)) m
unfolding path_by
path-none s m = go m.state.halted
  where
    go : (z : Bool) → stays (cond z halted spent) m ≡ stays (ending_in (cond z E.Halted E.Spent)) m
    go true = refl
    go false = refl

-- the steps from m0 to m, done, cost so much; a job's clock bounds how much that can be
pub record Paid (price : ℕ → ℕ) (m0 m : Machine) (done : List Machine) (fee : ℕ) : Type 0 where
  pub narrow : (o : ℕ) → price o ≤ 4294967295
  pub few : fee ≤ m.state.clock * 4294967295
  pub is : (ms : List Machine) → fee_from price m0 (done ++ ms) ≡ fee + fee_from price m ms

paid-none : {price : ℕ → ℕ} (m : Machine) → ((o : ℕ) → price o ≤ 4294967295) → Paid price m m [] 0
paid-none m h = record { narrow = h; few = omega arith; is = λ ms. omega arith }

module _ {price : ℕ → ℕ} {m0 m : Machine} {done : List Machine} {fee : ℕ} (s : Paid price m0 m done fee) where
  paid-more : {x : Machine} {next : ℕ} → outcome_by decide_of m ≡ took x → next ≡ fee + price (opcode_of m) → Paid price m0 x (done ++ (x ∷ [])) next
  unfolding fee_from
  paid-more {x} {next} e q =
      let c = step_clock decide_of m x e in
      let h = s.narrow (opcode_of m) in
      record {
        narrow = s.narrow;
        few = omega (arith, c, h, q, s.few);
        is = λ ms. ap (fee_from price m0) (append_assoc done (x ∷ []) ms) ∙ s.is (x ∷ ms) ∙ omega (arith, q);
      }

  paid-all : {ms : List Machine} → done ++ [] ≡ ms → fee ≡ fee_from price m0 ms
  unfolding fee_from
  paid-all u = let k = s.is [] in omega (arith, k) ∙ ap (fee_from price m0) u

-- after k of a budget's steps from m0 the machine is m, the log b and the table w, and what is left makes the whole path
pub record Going (t u : Bool) (price : ℕ → ℕ) (budget : ℕ) (b0 w0 : List ℕ) (m0 m : Machine) (k at filled fee : ℕ) (b w : List ℕ) : Type 0 where
  pub few : k ≤ budget
  pub sound : Sound m
  pub done : List Machine
  pub counted : k ≡ length done
  pub log : Written (log_of t) b0 m0 m done at b
  pub table : Written (rows_of u) w0 m0 m done filled w
  pub paid : Paid price m0 m done fee
  pub is : ahead done (path_by decide_of (space_of t u (length b0 - at) (length w0 - filled)) (budget - k) m) ≡ whole t u budget b0 w0 m0

pub steps_start : (t u : Bool) (price : ℕ → ℕ) (budget : ℕ) (b w : List ℕ) (m : Machine) → Sound m → ((o : ℕ) → price o ≤ 4294967295) → Going t u price budget b w m m 0 0 0 0 b w
steps_start t u price budget b w m s narrow =
    let e : budget - 0 ≡ budget = omega arith in
    let h : length b - 0 ≡ length b = omega arith in
    let i : length w - 0 ≡ length w = omega arith in
    record { few = omega arith; sound = s; done = []; counted = refl; log = written_none (log_of t) b m; table = written_none (rows_of u) w m; paid = paid-none m narrow; is = rw (e, h, i) }

-- where not less is left than what is asked for needs, it fits
own-fits : (t : Bool) (own : List ℕ) (room most : ℕ) → length own ≤ most → lacks (left_of t room) most ≡ false → length (cond t own []) ≤ room
own-fits true own room most h l = let k = ltb-false room most l in omega arith
own-fits false own room most h l = zero-le

-- in either revision
pub most_few : (v : ℕ) → most_bytes v ≤ 1028
unfolding most_bytes clock_bytes
most_few v = go (eqb v 2)
  where
    go : (t : Bool) → 1024 + cond t 4 0 ≤ 1028
    go true = omega arith
    go false = omega arith

pub lacks_none : (t : Bool) (left v : ℕ) → 1028 ≤ left → false ≡ lacks (left_of t left) (most_bytes v)
lacks_none true left v h = sym (le-ltb left (most_bytes v) (omega (arith, most_few v)))
lacks_none false left v h = refl

-- neither log nor table is short
not_short : (x y : Bool) → cond x true y ≡ false → (x ≡ false) × (y ≡ false)
not_short true y h = absurd (true≢false h)
not_short false y h = (refl, h)

end_full_lem : (t : Bool) (v : ℕ) (s : Space) (room most : ℕ) → s.log ≡ left_of t room → most ≡ most_bytes v → ending_in (end_full t room most) ≡ full (full_of v s)
end_full_lem t v s room most e q = go (lacks (left_of t room) most) ∙ ap (λ (x : Bool). full (cond x the_log the_table)) (ap (lacks (left_of t room)) q ∙ ap (λ (l : Left). lacks l (most_bytes v)) (sym e))
  where
    go : (x : Bool) → ending_in (cond x E.Full E.TableFull) ≡ full (cond x the_log the_table)
    go true = refl
    go false = refl

-- a row that was taken, as what it writes
row-own : (u : Bool) (m : Machine) (row : List ℕ) → (u ≡ true → row ≡ row_of m) → cond u row [] ≡ own_row u m
row-own true m row h = h refl
row-own false m row h = refl

module _ {t u : Bool} {price : ℕ → ℕ} {budget : ℕ} {b0 w0 : List ℕ} {m0 m : Machine} {k at filled fee : ℕ} {b w : List ℕ} (s : Going t u price budget b0 w0 m0 m k at filled fee b w) where
  -- the most bytes that a step writes
  abbrev most : ℕ
  most = most_bytes m.state.revision

  pub steps_within : at ≤ length b
  steps_within = written_within s.log

  pub rows_within : filled ≤ length w
  rows_within = written_within s.table

  -- the end: the answer and what is left are those of a path that takes no further step
  ended : (e : EndingIn) (r : VMState) (n : Memory) (b2 : List ℕ) (x : Machine) (d : Bool) → ahead s.done (path [] x d (ending_in e)) ≡ whole t u budget b0 w0 m0 → machine r m.code n ≡ x → b2 ≡ b →
      Ended t u price budget b0 w0 m0 m.code (record { count = k; ending = e; state = r; bytes = at; fee = fee }) n b2 w
  ended e r n b2 x d y l j =
      let ms = ap (λ (p : Path). p.machines) y in
      let all = written_all s.log (log-none t m) ms in
      record {
        ran = record {
          steps = s.counted ∙ ap length (sym (append-nil s.done)) ∙ ap (λ (p : Path). count p) y;
          ending = ap (λ (p : Path). p.ending) y;
          left = l ∙ ap (λ (p : Path). p.left) y;
          fee = paid-all s.paid ms;
          bytes = s.log.place ∙ ap length all;
          buffer = j ∙ s.log.buffer ∙ ap (logged b0 0) all;
        };
        table = s.table.buffer ∙ ap (logged w0 0) (written_all s.table (row-none u m) ms);
      }

  -- no step is tried
  stayed : (e : EndingIn) → path_by decide_of (space_of t u (length b0 - at) (length w0 - filled)) (budget - k) m ≡ stays (ending_in e) m →
      Ended t u price budget b0 w0 m0 m.code (record { count = k; ending = e; state = m.state; bytes = at; fee = fee }) m.memory b w
  stayed e h = ended e m.state m.memory b m false (ap (ahead s.done) (sym h) ∙ s.is) refl refl

  path-short-is : short_of t (length b - at) most u (length w - filled) ≡ too_little m.state.revision (space_of t u (length b0 - at) (length w0 - filled))
  path-short-is =
      ap (λ (i : ℕ). short_of t (i - at) most u (length w - filled)) (written-length s.log)
      ∙ ap (λ (i : ℕ). short_of t (length b0 - at) most u (i - filled)) (written-length s.table)

  pub steps_fill : {e : EndingIn} → k < budget → m.state.halted ≡ false → short_of t (length b - at) (most_bytes m.state.revision) u (length w - filled) ≡ true → e ≡ end_full t (length b - at) (most_bytes m.state.revision) →
      Ended t u price budget b0 w0 m0 m.code (record { count = k; ending = e; state = m.state; bytes = at; fee = fee }) m.memory b w
  steps_fill {e} h on l q =
      let z : budget - k ≡ suc (budget - (k + 1)) = omega arith in
      let c = space_of t u (length b0 - at) (length w0 - filled) in
      let r : too_little m.state.revision c ≡ true = sym path-short-is ∙ l in
      let j : ending_in e ≡ full (full_of m.state.revision c) = ap ending_in (q ∙ ap (λ (i : ℕ). end_full t (i - at) most) (written-length s.log)) ∙ end_full_lem t m.state.revision c (length b0 - at) most refl refl in
      stayed e (ap (λ (i : ℕ). path_by decide_of c i m) z ∙ path-full decide_of c (budget - (k + 1)) m on r ∙ ap (λ (i : Ending). stays i m) (sym j))

  pub steps-halt : {e : EndingIn} → e ≡ end_of m.state.halted → m.state.halted ≡ true → Ended t u price budget b0 w0 m0 m.code (record { count = k; ending = e; state = m.state; bytes = at; fee = fee }) m.memory b w
  steps-halt {e} is h = stayed e (path-halted decide_of (space_of t u (length b0 - at) (length w0 - filled)) (budget - k) m h ∙ ap (λ (i : Ending). stays i m) (sym (ap ending_in is ∙ ap (λ (z : Bool). ending_in (end_of z)) h)))

  pub steps_spend : {e : EndingIn} → e ≡ end_of m.state.halted → budget ≤ k → Ended t u price budget b0 w0 m0 m.code (record { count = k; ending = e; state = m.state; bytes = at; fee = fee }) m.memory b w
  steps_spend {e} is h =
      let z : budget - k ≡ 0 = omega arith in
      let c = space_of t u (length b0 - at) (length w0 - filled) in
      stayed e (ap (λ (i : ℕ). path_by decide_of c i m) z ∙ path-none c m ∙ ap (λ (i : EndingIn). stays (ending_in i) m) (sym is))

  module _ (h : k < budget) (on : m.state.halted ≡ false) (roomy : short_of t (length b - at) (most_bytes m.state.revision) u (length w - filled) ≡ false) where
    next : (o : Outcome) → outcome_by decide_of m ≡ o →
        ahead s.done (onward m (λ x. path_by decide_of (space_of t u (length b0 - at - length (own_log t m)) (length w0 - filled - length (own_row u m))) (budget - (k + 1)) x) o) ≡ whole t u budget b0 w0 m0
    next o e =
        let z : budget - k ≡ suc (budget - (k + 1)) = omega arith in
        let c = space_of t u (length b0 - at) (length w0 - filled) in
        let l : too_little m.state.revision c ≡ false = sym path-short-is ∙ roomy in
        ap (λ (r : Space). ahead s.done (onward m (λ x. path_by decide_of r (budget - (k + 1)) x) o)) (sym (space-behind t u (length b0 - at) (length w0 - filled) m))
        ∙ ap (ahead s.done) (sym (path_on decide_of c (budget - (k + 1)) m o on l e))
        ∙ ap (λ (i : ℕ). ahead s.done (path_by decide_of c i m)) (sym z)
        ∙ s.is

    enough : (lacks (left_of t (length b - at)) most ≡ false) × (lacks (left_of u (length w - filled)) 37 ≡ false)
    enough = not_short (lacks (left_of t (length b - at)) most) (lacks (left_of u (length w - filled)) 37) roomy

    room_in : t ≡ true → at + most_bytes m.state.revision ≤ length b
    room_in y =
        let z : ltb (length b - at) most ≡ false = rw y at enough.0 in
        let v = ltb-false (length b - at) most z in
        omega (arith, v, steps_within)

    -- room for a row
    pub row_room : u ≡ true → filled + 37 ≤ length w
    row_room y =
        let z : ltb (length w - filled) 37 ≡ false = rw y at enough.1 in
        let v = ltb-false (length w - filled) 37 z in
        omega (arith, v, rows_within)

    pub steps_stand : length b ≤ longest → StandingAt t m b at
    steps_stand few = record { sound = s.sound; on = on; within = steps_within; few = few; room = room_in }

    pay_fits : {x : Machine} → outcome_by decide_of m ≡ took x → fee + price (opcode_of m) < 18446744073709551616
    pay_fits {x} e =
        let c = step_clock decide_of m x e in
        let l = (step-sound decide_of facts m x s.sound e).clock in
        let h = s.paid.narrow (opcode_of m) in
        omega (arith, c, l, h, s.paid.few)

    -- the step is taken
    steps_go_on : {x : Machine} {next-at next_row next-fee : ℕ} {b2 w2 row : List ℕ} → outcome_by decide_of m ≡ took x → next-at ≡ at + length (own_log t m) → b2 ≡ logged b at (own_log t m) →
        (u ≡ true → row ≡ row_of m) → RowPut u w filled row w2 next_row → next-fee ≡ fee + price (opcode_of m) → Going t u price budget b0 w0 m0 x (k + 1) next-at next_row next-fee b2 w2
    steps_go_on {x} {next-at} {next_row} {next-fee} {b2} {w2} {row} e q j taken put pay =
        let own = row-own u m row taken in
        let row_at : next_row ≡ filled + length (own_row u m) = put.place ∙ ap (λ (i : List ℕ). filled + length i) own in
        let more : length (s.done ++ (x ∷ [])) ≡ length s.done + 1 = length-append s.done (x ∷ []) in
        let rest : length b0 - at - length (own_log t m) ≡ length b0 - next-at = omega (arith, q) in
        let rest-row : length w0 - filled - length (own_row u m) ≡ length w0 - next_row = omega (arith, row_at) in
        let p = path_by decide_of (space_of t u (length b0 - next-at) (length w0 - next_row)) (budget - (k + 1)) x in
        record {
          few = omega arith;
          sound = step-sound decide_of facts m x s.sound e;
          done = s.done ++ (x ∷ []);
          counted = omega (arith, s.counted, more);
          log = written-more s.log (own_log t m) (λ ms. log-more t m x ms e) (own-fits t (step_log decide_of m) (length b - at) most (took-log m x s.sound e) enough.0) q j;
          table = written-more s.table (own_row u m) (row_more u m x) (own-fits u (row_of m) (length w - filled) 37 (omega (arith, row-length m)) enough.1) row_at (put.table ∙ ap (logged w filled) own);
          paid = paid-more s.paid e pay;
          is =
              ap (λ (i : List Machine). path i p.left p.dropped p.ending) (append_assoc s.done (x ∷ []) p.machines)
              ∙ ap (λ (i : ℕ). ahead s.done (onward m (λ y. path_by decide_of (space_of t u i (length w0 - next_row)) (budget - (k + 1)) y) (took x))) (sym rest)
              ∙ ap (λ (i : ℕ). ahead s.done (onward m (λ y. path_by decide_of (space_of t u (length b0 - at - length (own_log t m)) i) (budget - (k + 1)) y) (took x))) (sym rest-row)
              ∙ next (took x) e;
        }

    -- a step that is taken
    module _ {next-at : ℕ} {x : VMState} {n : Memory} {b2 : List ℕ} (y : SteppedAt t m b at (Ok next-at) x n b2) where
      went_on : (outcome_by decide_of m ≡ took (machine x m.code n)) × (b2 ≡ logged b at (own_log t m))
      went_on = go (outcome_by decide_of m) refl
        where
          go : (o : Outcome) → outcome_by decide_of m ≡ o → (outcome_by decide_of m ≡ took (machine x m.code n)) × (b2 ≡ logged b at (own_log t m))
          go (took z) e = let l : machine x m.code n ≡ z = rw e at y.gives.left in (e ∙ ap took (sym l), rw e at y.buffer)
          go (kept z) e = let c = rw e at y.gives.answer in let v : ◌≡◌ {A = ℕ} 0 1 = cc in absurd (omega arith)
          go (lost z w) e = let c = rw e at y.gives.answer in let v : ◌≡◌ {A = ℕ} 0 1 = cc in absurd (omega arith)

      pub steps-sound : Sound (machine x m.code n)
      steps-sound = step-sound decide_of facts m _ s.sound went_on.0

      -- a row of the machine's own words is enough
      pub steps_go_asked : {w2 row : List ℕ} {next_row next-fee : ℕ} → (u ≡ true → row ≡ row_of m) → RowPut u w filled row w2 next_row → next-fee ≡ fee + price (opcode_of m) →
          Going t u price budget b0 w0 m0 (machine x m.code n) (k + 1) next-at next_row next-fee b2 w2
      steps_go_asked asked put pay = steps_go_on went_on.0 y.place went_on.1 asked put pay

      pub steps_go : {w2 row : List ℕ} {next_row next-fee : ℕ} → RowTaken u m row → RowPut u w filled row w2 next_row → next-fee ≡ fee + price (opcode_of m) →
          Going t u price budget b0 w0 m0 (machine x m.code n) (k + 1) next-at next_row next-fee b2 w2
      steps_go taken put pay = steps_go_asked taken.asked put pay

      pub steps-priced : Priced m
      steps-priced = took-priced m _ s.sound went_on.0

      -- the fee fits 64 bits, since the clock of the machine behind the step fits 32
      pub steps_pay : fee + price (opcode_of m) < 18446744073709551616
      steps_pay = pay_fits went_on.0

    -- a refused step ends it, with log and table as they were
    pub steps-stop : {q : InstructionError} {x : VMState} {n : Memory} {b2 : List ℕ} → SteppedAt t m b at (Err q) x n b2 →
        Ended t u price budget b0 w0 m0 m.code (record { count = k; ending = E.Refused q; state = x; bytes = at; fee = fee }) n b2 w
    steps-stop {q} {x} {n} {b2} y = go (outcome_by decide_of m) refl
      where
        ending : (v : Machine) (d : Bool) (z : Refusal) → turned (refusal_of q) ≡ turned z → machine x m.code n ≡ v → b2 ≡ logged b at [] → ahead s.done (path [] v d (refused z)) ≡ whole t u budget b0 w0 m0 →
            Ended t u price budget b0 w0 m0 m.code (record { count = k; ending = E.Refused q; state = x; bytes = at; fee = fee }) n b2 w
        ending v d z c l p i =
            let same : refusal_of q ≡ z = cc c in
            ended (E.Refused q) x n b2 v d (ap (λ (g : Refusal). ahead s.done (path [] v d (refused g))) same ∙ i) l (p ∙ sym (logged_none b at))

        go : (o : Outcome) → outcome_by decide_of m ≡ o → Ended t u price budget b0 w0 m0 m.code (record { count = k; ending = E.Refused q; state = x; bytes = at; fee = fee }) n b2 w
        go (took z) e = let c = rw e at y.gives.answer in let v : ◌≡◌ {A = ℕ} 0 1 = cc in absurd (omega arith)
        go (kept z) e = ending m false z (rw e at y.gives.answer) (rw e at y.gives.left) (rw e at y.buffer) (next (kept z) e)
        go (lost z v) e = ending v true z (rw e at y.gives.answer) (rw e at y.gives.left) (rw e at y.buffer) (next (lost z v) e)

-- ---- the memory lent

pub keeps_same : (a : LentMemory) → Keeps a a
keeps_same a = record { op_stack = refl; origins = refl; destinations = refl; addresses = refl; values = refl; output = refl }

pub keeps_on : {a b c : LentMemory} → Keeps a b → Keeps b c → Keeps a c
keeps_on h k =
    record {
      op_stack = k.op_stack ∙ h.op_stack;
      origins = k.origins ∙ h.origins;
      destinations = k.destinations ∙ h.destinations;
      addresses = k.addresses ∙ h.addresses;
      values = k.values ∙ h.values;
      output = k.output ∙ h.output;
    }

-- ---- prices

-- a slot that a step starts at has a price
pub price_there : (prices : Option (List ℕ)) {m : Machine} → Pricing prices → Priced m → PricedAt prices m.code.opcodes m.state.pointer
price_there None h p = record { there = _ }
price_there (Some s) {m} h p = record { there = (p.here, omega (arith, known_low (opcode_of m) p.known, h.all)) }
