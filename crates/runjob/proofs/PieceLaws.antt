-- What trace_execution gives is a part of the run: its log has the run's first records, and what is left of the run follows from the
-- machine that it left. So a piece's text is the first part of what is left to print. Assumes nothing.
use mathlib.Core.Path.{◌≡◌, refl, sym, ap, subst, ◌∙◌}
use mathlib.Core.Bool.{Bool, true, false, true≢false}
use mathlib.Core.List.{List, [], ◌∷◌, ◌++◌, append_assoc, append-nil}
use Prim.Native.Nat.{ℕ, suc, ◌+◌, ◌-◌, ◌≤◌, ◌<◌}
use native.Mathlib.Omega.{arith}
use borrow.Author.Tests.{le-ltb}
use lib.ListN.{length, take, drop, length-append}
use lib.Seq.{take_at}
use Rattle.machine.specs.declared.state.VMState.{VMState}
use Rattle.choices.specs.Choice.{cond}
use Rattle.machine.specs.Machine.{Code, Memory, Machine, machine}
use Rattle.machine.specs.PlaceA.{longest}
use Rattle.machine.specs.Decide.{decide_of}
use Rattle.machine.specs.Apply.{took, kept, lost, performed, dropped}
use Rattle.machine.specs.Records.{Record, log_bytes}
use Rattle.machine.specs.Step.{records_in, outcome_by}
use Rattle.machine.specs.Lengths.{clock_bytes, most_bytes}
use Rattle.machine.specs.FeeTable.{unpriced}
use Rattle.machine.specs.Fee.{fee_of}
use Rattle.machine.specs.Path.{Ending, Path, count, Space, unlogged, bytes, too_little, path_by, log_from}
use Rattle.machine.specs.Run.{call_a}
use Rattle.machine.specs.Sound.{Sound}
use Rattle.choices.proofs.Choice.{first_zero, above-not}
use Rattle.machine.proofs.PlaceA.{machine-accepted}
use Rattle.machine.proofs.Facts.{facts}
use Rattle.machine.proofs.Path.{after, Goes, at-halt, at_budget, at-full, at-refusal, at_drop, by_step, goes, path-halted, path-spent, path_on, path-ends, path-row, path_revision, path-sound}
use Rattle.machine.proofs.Run.{call-is}
use Rattle.machine.proofs.Step.{step-took, step-lost}
use Rattle.machine.proofs.Preserved.{limits_fit}
use Rattle.machine.proofs.OpStack.{put-length}
use Rattle.machine.specs.Refusal.{Refusal}
use Rattle.machine.proofs.Drops.{drops-deep}
use Rattle.machine.proofs.Records.{Sized}
use Rattle.machine_log.proofs.Logged.{logged-front}
use Rattle.replay.proofs.Verdicts.{All, none as All-none, more as All-more, all_map}
use Rattle.replay.proofs.Chains.{chain_fine}
use Rattle.replay.proofs.Demand3.{since-sized}
use Rattle.machine_steps.specs.RanView.{ending_in, RanAs}
use Rattle.machine_steps.specs.declared.answer.Ran.{Ran}
use Rattle.machine_vm.specs.RunView.{Traces}
use Rattle.job.specs.LogLines.{line_of, lines_of, log_lines}
use Rattle.job.specs.Printed.{out_lines, end_line, output_of, path_lines}
use Rattle.job.proofs.LogLinesLaws.{AllSized, none, more, log-lines}
use Rattle.std.specs.Prelude.{None, Some}
use Rattle.runjob.specs.declared.pending.Pending.{Pending}
use Rattle.runjob.specs.Pieces.{lines_from, code_for, machine_for, left_lines, is_full, piece_lines, moved_on}
use Rattle.runjob.specs.PieceView.{Ready, Writes}

-- ---- texts

lines-append : (rs ss : List Record) → lines_of (rs ++ ss) ≡ lines_of rs ++ lines_of ss
unfolding lines_of
lines-append [] ss = refl
lines-append (r ∷ rs) ss = rw (lines-append rs ss) (sym (append_assoc (line_of r) (lines_of rs) (lines_of ss)))

-- the log's lines, and behind them the output's and the end line, or nothing where the log was full
pub lines-full : (log out : List ℕ) (e : Ending) (n : ℕ) (s : VMState) → is_full e ≡ true → piece_lines log out e n s ≡ log_lines log
unfolding piece_lines
lines-full log out e n s h = ap (λ (x : Bool). log_lines log ++ cond x [] (out_lines (take s.outputs out) ++ end_line e n s.pointer s.depth)) h ∙ append-nil (log_lines log)

pub lines-ended : (log out : List ℕ) (e : Ending) (n : ℕ) (s : VMState) → is_full e ≡ false → piece_lines log out e n s ≡ log_lines log ++ (out_lines (take s.outputs out) ++ end_line e n s.pointer s.depth)
unfolding piece_lines
lines-ended log out e n s h = ap (λ (x : Bool). log_lines log ++ cond x [] (out_lines (take s.outputs out) ++ end_line e n s.pointer s.depth)) h

-- ---- a trace is a part of the run

-- the records of a path fit their bytes, so its log gives their lines
all-sized : {rs : List Record} → All (Sized 1) rs → AllSized rs
all-sized All-none = none
all-sized (All-more p k) = more p (all-sized k)

path-lines : {s : Space} {n : ℕ} {m : Machine} {p : Path} → Goes decide_of s n m p → Sound m → m.state.revision ≡ 1 →
    log_lines (log_bytes m.state.revision (log_from decide_of m p.machines)) ≡ lines_of (log_from decide_of m p.machines)
path-lines {m = m} {p} g s one =
    let rs = log_from decide_of m p.machines in
    let sized = all_map (since-sized m.state.revision m.state.clock) (chain_fine decide_of facts (path-row decide_of g).chain s) in
    ap (λ (v : ℕ). log_lines (log_bytes v rs)) one ∙ log-lines rs (all-sized (subst (λ (v : ℕ). All (Sized v) rs) one sized))

-- no step changes how much output is lent
step-output : (m x : Machine) → outcome_by decide_of m ≡ took x → length x.memory.output ≡ length m.memory.output
unfolding performed
step-output m x h =
    let k = step-took decide_of m x h in
    rw (← k.is) (put-length m.memory.output k.effect.output m.state.outputs (limits_fit m k.effect k.limits).output)

lost-output : (m : Machine) (r : Refusal) (x : Machine) → outcome_by decide_of m ≡ lost r x → length x.memory.output ≡ length m.memory.output
unfolding dropped
lost-output m r x h = rw (← (step-lost decide_of m r x h).1) refl

path-output : {s : Space} {n : ℕ} {m : Machine} {p : Path} → Goes decide_of s n m p → length p.left.memory.output ≡ length m.memory.output
path-output (at-halt h) = refl
path-output (at_budget h) = refl
path-output (at-full h l) = refl
path-output (at-refusal h e) = refl
path-output {m = m} (at_drop {x = x} {r = r} h e) = lost-output m r x e
path-output {m = m} (by_step {x = x} h e g) = path-output g ∙ step-output m x e

-- a path that was full has steps, unless there was no room for one
full_some : {s : Space} {n : ℕ} {m : Machine} {p : Path} → Goes decide_of s n m p → too_little m.state.revision s ≡ false → is_full p.ending ≡ true → 0 < count p
full_some (at-halt h) l f = absurd (true≢false (sym f))
full_some (at_budget h) l f = absurd (true≢false (sym f))
full_some (at-full h k) l f = absurd (true≢false (sym k ∙ l))
full_some (at-refusal h e) l f = absurd (true≢false (sym f))
full_some (at_drop h e) l f = absurd (true≢false (sym f))
full_some (by_step h e g) l f = omega arith

-- behind the stack lines of a path's steps: the rest of the run where it was full, else the output and the end line
abbrev behind : ℕ → ℕ → Path → List ℕ
behind done n p =
    cond (is_full p.ending) (lines_from (done + count p) (n - count p) p.left)
    (out_lines (output_of p.left) ++ end_line p.ending (done + count p) p.left.state.pointer p.left.state.depth)

part-lines : {s : Space} {n : ℕ} {m : Machine} {p : Path} → Goes decide_of s n m p → (done : ℕ) → lines_from done n m ≡ lines_of (log_from decide_of m p.machines) ++ behind done n p
unfolding lines_from path_lines lines_of log_from
part-lines {n = n} {m} (at-halt h) done = rw (path-halted decide_of unlogged n m h)
part-lines {m = m} (at_budget h) done = rw (path-spent decide_of unlogged m h)
part-lines (at-full {n = n} h l) done = let z : suc n - 0 ≡ suc n = omega arith in let y : done + 0 ≡ done = omega arith in rw (z, y)
part-lines {m = m} (at-refusal {n = n} {r = r} h e) done = rw (path_on decide_of unlogged n m (kept r) h refl e)
part-lines {m = m} (at_drop {n = n} {x = x} {r = r} h e) done = rw (path_on decide_of unlogged n m (lost r x) h refl e)
part-lines {m = m} (by_step {n = n} {x = x} {p = p} h e g) done =
    let q = path_by decide_of unlogged n x in
    let own = records_in m (decide_of m) in
    let ends = out_lines (output_of q.left) ++ end_line q.ending (done + 1 + count q) q.left.state.pointer q.left.state.depth in
    let i : done + suc (count q) ≡ done + 1 + count q = omega arith in
    let j : done + 1 + count p ≡ done + suc (count p) = omega arith in
    let k : n - count p ≡ suc n - suc (count p) = omega arith in
    rw (path_on decide_of unlogged n m (took x) h refl e, lines-append own (log_from decide_of x q.machines), lines-append own (log_from decide_of x p.machines), i)
    (append_assoc (lines_of own) (lines_of (log_from decide_of x q.machines)) ends
    ∙ ap (λ (u : List ℕ). lines_of own ++ u) (part-lines g (done + 1))
    ∙ rw (j, k) (sym (append_assoc (lines_of own) (lines_of (log_from decide_of x p.machines)) (behind done (suc n) (after x p)))))

-- ---- what is left to print

pub left-none : (c : Code) (m : Memory) → left_lines None c m ≡ []
unfolding left_lines
left-none c m = refl

pub left-some : (j : Pending) (c : Code) (m : Memory) → left_lines (Some j) c m ≡ lines_from j.done j.budget (machine_for j c m)
unfolding left_lines
left-some j c m = refl

-- ---- a piece

cut : (t : Bool) (a b rest ends : List ℕ) → a ≡ b → b ++ cond t rest ends ≡ (a ++ cond t [] ends) ++ cond t rest []
cut true a b rest ends e = ap (λ (u : List ℕ). u ++ rest) (sym e ∙ sym (append-nil a))
cut false a b rest ends e = ap (λ (u : List ℕ). u ++ ends) (sym e) ∙ sym (append-nil (a ++ ends))

-- what trace_execution gives of n steps from x, where `done` were taken
pub record Followed (done n : ℕ) (x : Machine) (t : Ran) (y : Machine) (log : List ℕ) : Type 0 where
  pub inside : t.bytes ≤ length log
  pub few : t.count ≤ n
  pub some : is_full (ending_in t.ending) ≡ true → 0 < t.count
  pub sound : Sound y
  pub revision : y.state.revision ≡ 1
  pub output : length y.memory.output ≡ length x.memory.output
  pub is : lines_from done n x ≡
      piece_lines (take t.bytes log) y.memory.output (ending_in t.ending) (done + t.count) y.state
      ++ cond (is_full (ending_in t.ending)) (lines_from (done + t.count) (n - t.count) y) []

pub followed : (done n : ℕ) (x : Machine) (t : Ran) (m : Memory) (log log2 : List ℕ) → Sound x → x.state.revision ≡ 1 → length log ≤ longest → 1024 ≤ length log → Traces unpriced n x log t m log2 →
    Followed done n x t (machine t.state x.code m) log2
unfolding call_a piece_lines most_bytes clock_bytes
followed done n x t m log log2 s one few step w =
    let z : call_a (bytes (length log)) x ≡ 0 = first_zero _ _ refl ∙ first_zero _ _ (above-not (length log) longest 1 few) ∙ machine-accepted x s in
    of (path_by decide_of (bytes (length log)) n x) (goes decide_of (bytes (length log)) n x)
    (subst (λ (p : Path). RanAs p (fee_of unpriced x p.machines) (log_bytes x.state.revision (log_from decide_of x p.machines)) x.code log t m log2) (call-is decide_of unpriced (bytes (length log)) n x z) w)
  where
    of : (p : Path) → Goes decide_of (bytes (length log)) n x p → RanAs p (fee_of unpriced x p.machines) (log_bytes x.state.revision (log_from decide_of x p.machines)) x.code log t m log2 → Followed done n x t (machine t.state x.code m) log2
    of p g r =
        let own = log_bytes x.state.revision (log_from decide_of x p.machines) in
        let front : log2 ≡ own ++ drop (length own) log = r.buffer ∙ logged-front log own in
        let long : length log2 ≡ length own + length (drop (length own) log) = ap length front ∙ length-append own _ in
        let lines : log_lines (take t.bytes log2) ≡ lines_of (log_from decide_of x p.machines) =
        ap (λ (u : List ℕ). log_lines (take t.bytes u)) front ∙ ap log_lines (take_at own _ t.bytes (sym r.bytes)) ∙ path-lines g s one in
        subst (λ (y : Machine). Followed done n x t y log2) (sym r.left)
        (record {
          inside = omega (arith, long, r.bytes);
          few = omega (arith, (path-ends decide_of g).few, r.steps);
          some = rw (r.steps, r.ending) (full_some g (ap (λ (v : ℕ). too_little v (bytes (length log))) one ∙ ap (λ (q : Bool). cond q true false) (le-ltb (length log) 1024 step)));
          sound = path-sound decide_of facts (λ m s r e. drops-deep m r e) g s;
          revision = path_revision decide_of g ∙ one;
          output = path-output g;
          is = rw (r.steps, r.ending) (part-lines g done ∙ cut (is_full p.ending) _ _ _ _ lines);
        })

module _ (j : Pending) (c : Code) (m : Memory) (t : Ran) (n : Memory) (log log2 : List ℕ) where
  module _ (y : Ready j c m) (room : length log ≡ 524288) (w : Traces unpriced j.budget (machine_for j c m) log t n log2) where
    goes_on : Followed j.done j.budget (machine_for j c m) t (machine t.state (code_for j c) n) log2
    goes_on = followed j.done j.budget (machine_for j c m) t n log log2 y.sound y.revision (omega arith) (omega arith) w

    pub piece-holds : (t.bytes ≤ length log2) × (t.state.outputs ≤ length m.output) × (j.done + t.count < 18446744073709551616) × (t.count ≤ j.budget)
    piece-holds = let f = goes_on in (f.inside, omega (arith, f.sound.outputs, f.output), omega (arith, f.few, y.steps), f.few)

    -- the log was full
    pub piece-full : is_full (ending_in t.ending) ≡ true → Writes j c m (Some (moved_on j t)) n (log_lines (take t.bytes log2))
    piece-full h =
        let f = goes_on in
        record {
          is = left-some j c m ∙ f.is
              ∙ ap (λ (x : Bool). piece_lines (take t.bytes log2) n.output (ending_in t.ending) (j.done + t.count) t.state ++ cond x (lines_from (j.done + t.count) (j.budget - t.count) (machine t.state (code_for j c) n)) []) h
              ∙ ap (λ (u : List ℕ). u ++ lines_from (j.done + t.count) (j.budget - t.count) (machine t.state (code_for j c) n)) (lines-full _ _ _ _ _ h)
              ∙ ap (λ (u : List ℕ). log_lines (take t.bytes log2) ++ u) (sym (left-some (moved_on j t) c n));
          less = omega (arith, f.some h, f.few);
          ready = record { opcodes = y.opcodes; arguments = y.arguments; public = y.public; secret = y.secret; digests = y.digests; sound = f.sound; revision = f.revision; steps = omega (arith, f.few, y.steps) };
        }

    -- the run has ended
    pub piece-ended : {text ends : List ℕ} → is_full (ending_in t.ending) ≡ false → ends ≡ end_line (ending_in t.ending) (j.done + t.count) t.state.pointer t.state.depth →
        text ≡ log_lines (take t.bytes log2) ++ (out_lines (take t.state.outputs n.output) ++ ends) → Writes j c m None n text
    piece-ended {text} h e g =
        let f = goes_on in
        record {
          is = left-some j c m ∙ f.is
              ∙ ap (λ (x : Bool). piece_lines (take t.bytes log2) n.output (ending_in t.ending) (j.done + t.count) t.state ++ cond x (lines_from (j.done + t.count) (j.budget - t.count) (machine t.state (code_for j c) n)) []) h
              ∙ ap (λ (u : List ℕ). u ++ []) (lines-ended _ _ _ _ _ h ∙ ap (λ (u : List ℕ). log_lines (take t.bytes log2) ++ (out_lines (take t.state.outputs n.output) ++ u)) (sym e) ∙ sym g)
              ∙ ap (λ (u : List ℕ). text ++ u) (sym (left-none c n));
          less = omega arith;
          ready = tt;
        }
