-- What starting a job gives, by the contracts of reading and opening it. Assumes nothing.
use mathlib.Core.Path.{◌≡◌, refl, sym, ap, subst, ◌∙◌}
use mathlib.Core.Bool.{Bool}
use mathlib.Core.List.{List}
use Prim.Native.Nat.{ℕ, ◌+◌, ◌≤◌, ◌<◌}
use native.Mathlib.Nat.{zero-add}
use native.Mathlib.Omega.{arith}
use borrow.Author.Tests.{eq-eqb, ne_eqb}
use lib.ListN.{length, take, drop, replicate, length-append, length-replicate}
use lib.Seq.{take_at}
use Rattle.choices.specs.Choice.{cond}
use Rattle.machine.specs.Machine.{Code, Memory, Machine, machine, code, memory}
use Rattle.machine.specs.declared.lent.OpeningMemory.{OpeningMemory}
use Rattle.machine.specs.Lent.{opening_of, KeepsOpening}
use Rattle.machine.specs.Apply.{Outcome, took}
use Rattle.machine.specs.declared.state.VMState.{VMState}
use Rattle.machine_log.specs.Logged.{logged}
use Rattle.machine.specs.FeeTable.{unpriced}
use Rattle.machine.specs.Open.{open_of}
use Rattle.machine.specs.Decide.{decide_of}
use Rattle.machine.specs.Path.{count, unlogged, path_by}
use Rattle.machine.specs.Sound.{Sound}
use Rattle.machine_log.proofs.Logged.{logged-front}
use Rattle.machine.proofs.PlaceA.{open_sound}
use Rattle.machine_open.specs.OpenView.{Opens}
use Rattle.job.specs.declared.job_file.JobFile.{JobFile}
use Rattle.job.specs.JobFile.{Job, Filled, job_of}
use Rattle.machine.specs.declared.refusal.InstructionError.{InstructionError}
use Rattle.job.specs.declared.job_file.BrokenFile.{BrokenFile}
use Rattle.job.specs.JobFileView.{Lent, Says, Breaks}
use Rattle.std.specs.Prelude.{Ok, Err, Result, IsErrAnd}
use Rattle.runjob.specs.declared.pending.Pending.{Pending}
use Rattle.runjob.specs.declared.refusals.NotOpened.{NotOpened}
use Rattle.runjob.specs.declared.refusals.NotOpened.TheVariants as N
use Rattle.job.specs.Printed.{path_lines, run_lines, not_opened, code_of, memory_of, on_opened, job_lines}
use Rattle.runjob.specs.Pieces.{lines_from}
use Rattle.runjob.specs.StartView.{pending_of, Starts}
use Rattle.runjob.proofs.PieceLaws.{left-some}

-- ---- the file's words

pub filled-inside : {b b2 words : List ℕ} {n : ℕ} → Filled b b2 words n → n ≤ length b2
filled-inside {b} {b2} {words} {n} f =
    let long : length b2 ≡ length words + length (drop (length words) b) = ap length (f.is ∙ logged-front b words) ∙ length-append words _ in
    omega (arith, long, f.count)

filled-take : {b b2 words : List ℕ} {n : ℕ} → Filled b b2 words n → take n b2 ≡ words
filled-take {b} {b2} {words} {n} f = ap (take n) (f.is ∙ logged-front b words) ∙ take_at words _ n (sym f.count)

-- ---- what main lends

pub zeros : (n : ℕ) {s : List ℕ} → s ≡ replicate n 0 → length s ≡ n
zeros n e = ap length e ∙ length-replicate {A = ℕ} n 0

-- an opening leaves what it may only look at
pub opening-kept : {a b : OpeningMemory} → KeepsOpening a b → opening_of b ≡ memory b.op_stack.now b.origins.now b.destinations.now a.addresses.now a.values.now a.output.now
opening-kept {a} {b} k = rw (k.addresses, k.values, k.output) refl

-- ---- the job's lines

-- an opened job prints what is to be printed where no step was taken
run-lines : (budget : ℕ) (m : Machine) → run_lines budget m ≡ lines_from 0 budget m
unfolding run_lines lines_from
run-lines budget m = let p = path_by decide_of unlogged budget m in ap (λ (n : ℕ). path_lines n m p) (sym (zero-add (count p)))

good-lines : (j : Job) → j.number ≡ 0 → job_lines j ≡ on_opened j.budget (open_of unpriced 1 j.digest (code_of j) (memory_of j) (length j.addresses))
unfolding job_lines
good-lines j e = ap (λ (t : Bool). cond t (on_opened j.budget (open_of unpriced 1 j.digest (code_of j) (memory_of j) (length j.addresses))) (not_opened j.number)) (eq-eqb j.number 0 e)

bad-lines : (j : Job) → (j.number ≡ 0 → ⊥) → job_lines j ≡ not_opened j.number
unfolding job_lines
bad-lines j e = ap (λ (t : Bool). cond t (on_opened j.budget (open_of unpriced 1 j.digest (code_of j) (memory_of j) (length j.addresses))) (not_opened j.number)) (ne_eqb j.number 0 e)

module _ (j : Job) where
  abbrev Open : Outcome
  Open = open_of unpriced 1 j.digest (code_of j) (memory_of j) (length j.addresses)

  -- what an opened job prints, that its machine is sound and its log of revision 1
  is-opened : (x : Machine) → Open ≡ took x → j.number ≡ 0 → (job_lines j ≡ run_lines j.budget x) × Sound x × (x.state.revision ≡ 1)
  is-opened x e z =
      let k = open_sound unpriced 1 j.digest (code_of j) (memory_of j) (length j.addresses) x e in
      (good-lines j z ∙ ap (on_opened j.budget) e, k.sound, k.revision)

-- ---- the call

module _ (file : List ℕ) (j : JobFile) (l l2 : Lent) (s : Says (job_of file) j l l2) where
  abbrev Taken : Code
  Taken = code (take j.slots l2.opcodes) (take j.slots l2.arguments) (take j.publics l2.public) (take j.secrets l2.secret) (take j.digests l2.digests)

  taken : Taken ≡ code_of (job_of file)
  taken = rw (filled-take s.opcodes, filled-take s.arguments, filled-take s.public, filled-take s.secret, filled-take s.digests)

  module _ (m : Memory) (stack : m.op_stack ≡ replicate 4096 0) (origins : m.origins ≡ replicate 1024 0) (destinations : m.destinations ≡ replicate 1024 0) (output : m.output ≡ replicate 4096 0) where
    module _ (addresses : l.addresses ≡ replicate 4096 0) (values : l.values ≡ replicate 4096 0) (ram : m.addresses ≡ l2.addresses) (words : m.values ≡ l2.values) where
      lends : m ≡ memory_of (job_of file)
      lends =
          let x : m.addresses ≡ logged (replicate 4096 0) 0 (job_of file).addresses = ram ∙ s.addresses.is ∙ ap (λ (u : List ℕ). logged u 0 (job_of file).addresses) addresses in
          let y : m.values ≡ logged (replicate 4096 0) 0 (job_of file).values = words ∙ s.values.is ∙ ap (λ (u : List ℕ). logged u 0 (job_of file).values) values in
          let z = replicate {A = ℕ} 4096 0 in
          let e = replicate {A = ℕ} 1024 0 in
          ap (λ (u : List ℕ). memory u m.origins m.destinations m.addresses m.values m.output) stack
          ∙ ap (λ (u : List ℕ). memory z u m.destinations m.addresses m.values m.output) origins
          ∙ ap (λ (u : List ℕ). memory z e u m.addresses m.values m.output) destinations
          ∙ ap (λ (u : List ℕ). memory z e e u m.values m.output) x
          ∙ ap (λ (u : List ℕ). memory z e e (logged z 0 (job_of file).addresses) u m.output) y
          ∙ ap (λ (u : List ℕ). memory z e e (logged z 0 (job_of file).addresses) (logged z 0 (job_of file).values) u) output

      same_open : open_of unpriced 1 j.digest Taken m j.cells ≡ Open (job_of file)
      same_open =
          ap (λ (g : List ℕ). open_of unpriced 1 g Taken m j.cells) s.digest ∙ ap (λ (c : Code). open_of unpriced 1 (job_of file).digest c m j.cells) taken
          ∙ ap (λ (x : Memory). open_of unpriced 1 (job_of file).digest (code_of (job_of file)) x j.cells) lends ∙ ap (λ (n : ℕ). open_of unpriced 1 (job_of file).digest (code_of (job_of file)) (memory_of (job_of file)) n) s.addresses.count

      module _ (m2 : Memory) where
        -- m3 is m2 as main knows it
        pub starts_opened : (v : VMState) {m3 : Memory} → Opens unpriced 1 j.digest Taken m j.cells (Ok v) m2 → m2 ≡ m3 → j.budget < 18446744073709551616 →
            Starts file (Ok (pending_of j v)) (code l2.opcodes l2.arguments l2.public l2.secret l2.digests) m3
        starts_opened v {m3} o kept fits =
            let x = machine v Taken m3 in
            let both = is-opened (job_of file) x (sym same_open ∙ sym o.is ∙ ap (λ (n : Memory). took (machine v Taken n)) kept) s.number in
            record {
              is = both.0 ∙ ap (λ (b : ℕ). run_lines b x) (sym s.budget) ∙ run-lines j.budget x ∙ sym (left-some (pending_of j v) (code l2.opcodes l2.arguments l2.public l2.secret l2.digests) m3);
              ready =
                  record {
                    opcodes = filled-inside s.opcodes;
                    arguments = filled-inside s.arguments;
                    public = filled-inside s.public;
                    secret = filled-inside s.secret;
                    digests = filled-inside s.digests;
                    sound = both.1;
                    revision = both.2;
                    steps = omega (arith, fits);
                  };
            }

        pub starts_refused : (e : InstructionError) {c : Code} {m3 : Memory} (r : Result Pending NotOpened) → Opens unpriced 1 j.digest Taken m j.cells (Err e) m2 → IsErrAnd r (λ x. x ≡ N.Refused e) → Starts file r c m3
        starts_refused e (Ok x) o h = absurd h
        starts_refused e (Err x) o h =
            rw h
            (record {
              is = good-lines (job_of file) s.number ∙ ap (on_opened (job_of file).budget) (sym (o.is ∙ same_open));
              ready = tt;
            })

-- a broken file
starts_broken : (file : List ℕ) {l l2 : Lent} (b : BrokenFile) {c : Code} {m : Memory} → Breaks (job_of file) l l2 → Starts file (Err (N.Broken b)) c m
starts_broken file b s = record { is = bad-lines (job_of file) (λ z. omega (arith, s.number)) ∙ ap not_opened s.number; ready = tt }

pub starts_so : (file : List ℕ) {l l2 : Lent} {c : Code} {m : Memory} (b : BrokenFile) (r : Result Pending NotOpened) → Breaks (job_of file) l l2 → IsErrAnd r (λ x. x ≡ N.Broken b) → Starts file r c m
starts_so file b (Ok x) s h = absurd h
starts_so file b (Err x) s h = rw h (starts_broken file b s)
