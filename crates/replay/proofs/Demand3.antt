-- Demand 3, of any instruction set whose effects have the facts. Assumes nothing.
use mathlib.Core.Path.{◌≡◌, refl, sym, ap, subst, ◌∙◌}
use mathlib.Core.List.{List, [], ◌∷◌, ◌++◌, append_assoc}
use Prim.Native.Nat.{ℕ, ◌-◌, ◌≤◌, ◌<◌}
use native.Mathlib.Omega.{arith}
use borrow.Author.Tests.{eq-eqb}
use lib.ListN.{length, replicate, length-append, length-replicate}
use Rattle.machine.specs.Words.{p}
use Rattle.choices.specs.Choice.{cond}
use Rattle.machine.specs.Ram.{Cells, Alike}
use Rattle.machine.specs.Machine.{Machine}
use Rattle.machine.specs.Machine as M
use Rattle.machine.specs.Effect.{Effect, Decision, acts}
use Rattle.machine.specs.Bytes.{Bytes, bytes_of, number_of, is_word}
use Rattle.machine.specs.Records.{Record, record_bytes, log_bytes}
use Rattle.machine.specs.Sound.{Sound, Facts}
use Rattle.choices.proofs.Choice.{first_zero, above-not}
use Rattle.machine.proofs.Words.{zeros_fine, zeros_get_d}
use Rattle.machine.proofs.RamLaws.{cells1-alike, cells2-alike, cells5-alike}
use Rattle.machine.proofs.Bytes.{bytes_back, number_small}
use Rattle.machine.proofs.Records.{Sized, sized_other, sized_timed, sized_stack, sized_ram, many_bytes, log-append}
use Rattle.machine.proofs.PlaceA.{Opened, open_sound, cells1-fine, cells2-fine, cells5-fine}
use Rattle.replay.specs.Replay.{tally, started, fine, replay_records, finished, refuses, replay_a, replay_of}
use Rattle.replay.specs.Job.{Ask, records_of_job, machine_at}
use Rattle.replay.specs.Demand3.{Rebuilt, Read, altered, replayed, Case, Demand3}
use Rattle.replay.proofs.Under.{under_zeros}
use Rattle.replay.proofs.Verdicts.{All, more, all_map, replay_on, replay_late}
use Rattle.replay.proofs.Steps.{fresh-first, Fine, fine_other, fine_timed, fine_stack, fine_ram}
use Rattle.replay.proofs.Chains.{shadow, Since, Split, chain_fine, chain_split}
use Rattle.replay.proofs.Calls.{job_chain}
use Rattle.replay.proofs.Alter.{changed, replay_other}
use Rattle.replay.proofs.Bytes.{bytes_replay, altered-is, changed-length, changed-sized}

-- ---- replay's own checks pass

-- whatever stands in the unused cells
pub replay_accepts : (m : Machine) (c : Cells) (log : List ℕ) → Sound m → Alike c (M.ram m) → length log ≤ 16777216 →
    replay_a m.state.revision log c (replicate (length m.memory.op_stack) 0) ≡ 0
unfolding replay_a
replay_accepts m c log s h l =
    let d = length m.memory.op_stack in
    let n : length {A = ℕ} (replicate d 0) ≤ 16777216 = rw (length-replicate {A = ℕ} d 0) s.op_stack.few in
    first_zero _ _
    (first_zero _ _ (above-not (length log) 16777216 1 l) ∙ first_zero _ _ (cells1-alike h ∙ cells1-fine (M.ram m) s.cells) ∙ above-not (length {A = ℕ} (replicate d 0)) 16777216 1 n)
    ∙ first_zero _ _ (cells2-alike h ∙ cells2-fine (M.ram m) s.cells)
    ∙ first_zero _ _ s.revision
    ∙ first_zero _ _ (cells5-alike h ∙ cells5-fine (M.ram m) s.cells)
    ∙ zeros_fine (replicate d 0) 0 (length {A = ℕ} (replicate d 0)) (λ k _ _. zeros_get_d d k)

-- and it goes over the records
replay_is : (v : ℕ) (c : Cells) (n j : ℕ) (rs : List Record) → replay_a v (log_bytes v rs) c (replicate n 0) ≡ 0 → All (Sized v) rs →
    replay_of v (log_bytes v rs) c (replicate n 0) j ≡ finished (replay_records j (started (replicate n 0) c) rs) (replicate n 0) c
unfolding replay_of
replay_is v c n j rs z s = rw (eq-eqb _ 0 z, bytes_replay v (length (log_bytes v rs)) j (started (replicate n 0) c) s (many_bytes v rs))

-- ---- the records of a job fit their bytes

fine-sized : (v t : ℕ) (r : Record) → t < 4294967296 → Fine v t r → Sized v r
fine-sized v t r h (fine_other a b c) = sized_other a b c
fine-sized v t r h (fine_timed a b c) = sized_timed a b h c
fine-sized v t r h (fine_stack {q = q} {x = z} a b c) =
    let x : q < 18446744073709551616 = omega arith in
    let y : z < 18446744073709551616 = omega arith in
    sized_stack h x y
fine-sized v t r h (fine_ram {a = q} {x = z} a b c) =
    let x : q < 18446744073709551616 = omega arith in
    let y : z < 18446744073709551616 = omega arith in
    sized_ram h x y

pub since-sized : (v k : ℕ) (r : Record) → Since v k r → Sized v r
since-sized v k r s = fine-sized v s.at r s.small s.fine

all-swap : {P : Record → Type 0} (before : List Record) (r x : Record) (after : List Record) → (P r → P x) → All P (before ++ r ∷ after) → All P (before ++ x ∷ after)
all-swap [] r x after f (more p h) = more (f p) h
all-swap (y ∷ ys) r x after f (more p h) = more p (all-swap ys r x after f h)

-- ---- a log with one record changed

altered-log : (v : ℕ) (before after : List Record) (r : Record) (b : List ℕ) → Bytes b → length b ≡ 8 →
    log_bytes v before ++ altered v r b ++ log_bytes v after ≡ log_bytes v (before ++ changed r (number_of b) ∷ after)
unfolding log_bytes
altered-log v before after r b h e =
    rw (altered-is v r b h e)
    (append_assoc (log_bytes v before) (record_bytes v (changed r (number_of b))) (log_bytes v after) ∙ sym (log-append v before (changed r (number_of b) ∷ after)))

altered-length : (v : ℕ) (before after : List Record) (r : Record) (x : ℕ) → length (log_bytes v (before ++ changed r x ∷ after)) ≡ length (log_bytes v (before ++ r ∷ after))
unfolding log_bytes
altered-length v before after r x =
    rw (log-append v before (changed r x ∷ after), log-append v before (r ∷ after))
    (simp length-append (rw (changed-length v r x)))

-- ---- the theorem

module _ (decide : Machine → Decision) (facts : (m : Machine) → Sound m → (e : Effect) → decide m ≡ acts e → Facts m e) where
  module _ (m : Machine) (c : Cells) (asks : List Ask) (j : ℕ) (o : Case decide m c asks j) where
    opens : Opened o.revision m
    opens = open_sound o.fees o.revision o.digest o.code o.memory o.count m o.opens

    opening : started (replicate (length m.memory.op_stack) 0) c ≡ shadow (tally 0 0 0 0) m c
    opening = rw (opens.depth, under_zeros m.memory.op_stack)

    split : Split j (shadow (tally 0 0 0 0) m c) (records_of_job decide m asks) (machine_at decide m asks j)
    split =
        let e : j - m.state.clock ≡ j = omega (arith, opens.clock) in
        rw e at
        (chain_split decide facts (job_chain decide asks m) opens.sound j (omega (arith, opens.clock)) (omega (arith, o.clock)) c o.same (tally 0 0 0 0) (rw opens.clock fresh-first) m)

    all-sized : All (Sized m.state.revision) (records_of_job decide m asks)
    all-sized = all_map (since-sized m.state.revision m.state.clock) (chain_fine decide facts (job_chain decide asks m) opens.sound)

    over_records : (rs : List Record) → All (Sized m.state.revision) rs → length (log_bytes m.state.revision rs) ≤ 16777216 →
        replayed m c (log_bytes m.state.revision rs) j ≡ finished (replay_records j (shadow (tally 0 0 0 0) m c) rs) (replicate (length m.memory.op_stack) 0) c
    over_records rs s l = rw (← opening) (replay_is m.state.revision c (length m.memory.op_stack) j rs (replay_accepts m c (log_bytes m.state.revision rs) opens.sound o.same l) s)

    rebuilt : Rebuilt (replayed m c (log_bytes m.state.revision (records_of_job decide m asks)) j) (machine_at decide m asks j)
    rebuilt =
        let s = split in
        let h : replay_records j (shadow (tally 0 0 0 0) m c) (records_of_job decide m asks) ≡ fine (shadow s.counts (machine_at decide m asks j) s.now) =
        rw s.joined (replay_on s.behind s.reads ∙ replay_late j _ s.behind s.rest) in
        rw (over_records (records_of_job decide m asks) all-sized o.short, h) (record { succeeds = refl; depth = refl; used = s.alike; words = refl })

    detected : (before after : List Record) (r : Record) (v : ℕ) (b : List ℕ) → records_of_job decide m asks ≡ before ++ r ∷ after → Read j r v →
        Bytes b → length b ≡ 8 → (b ≡ bytes_of 8 v → ⊥) →
        replayed m c (log_bytes m.state.revision before ++ altered m.state.revision r b ++ log_bytes m.state.revision after) j
        ≡ refuses (cond (is_word b) 43 40) (replicate (length m.memory.op_stack) 0) c
    detected before after r v b e d h l n =
        let s = split in
        let x = number_of b in
        let back : bytes_of 8 x ≡ b = rw (← l) (bytes_back h) in
        let small : x < 18446744073709551616 = rw l at (number_small h) in
        let differs : x ≡ v → ⊥ = λ z. n (sym back ∙ ap (bytes_of 8) z) in
        let sized = all-swap before r (changed r x) after (changed-sized m.state.revision r x small) (subst (All (Sized m.state.revision)) e all-sized) in
        let short : length (log_bytes m.state.revision (before ++ changed r x ∷ after)) ≤ 16777216 = rw (altered-length m.state.revision before after r x, ← e) o.short in
        let k = over_records (before ++ changed r x ∷ after) sized short in
        let w = replay_other s.behind before r after v x s.reads s.rest (sym s.joined ∙ e) d differs in
        rw (altered-log m.state.revision before after r b h l, k, w, back)

  pub demand_3 : Demand3 decide
  demand_3 = record { rebuilds = rebuilt; detects = detected }
