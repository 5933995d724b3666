-- Steps in a row: replay to clock j comes to the machine after step j, and everything behind that stops it. Assumes nothing.
use mathlib.Core.Path.{◌≡◌, refl, sym, ap, subst, ◌∙◌}
use mathlib.Core.Bool.{Bool, true, false}
use mathlib.Core.List.{List, [], ◌∷◌, ◌++◌, append_assoc}
use Prim.Native.Nat.{ℕ, suc, ◌+◌, ◌-◌, ◌≤◌, ◌<◌}
use native.Mathlib.Omega.{arith}
use borrow.Author.Tests.{ltb-true, ltb-false}
use lib.ListN.{length, get_or}
use lib.Dec.{ltb}
use Rattle.machine.specs.Ram.{Cells, Alike}
use Rattle.machine.specs.Machine.{Machine}
use Rattle.machine.specs.Machine as M
use Rattle.machine.specs.Effect.{Effect, Decision, acts}
use Rattle.machine.specs.Apply.{performed}
use Rattle.machine.specs.Records.{Record, records_of}
use Rattle.machine.specs.Step.{records_in}
use Rattle.machine.specs.Path.{log_from}
use Rattle.machine.specs.Sound.{Sound, Facts}
use Rattle.machine.proofs.Preserved.{limits_fit}
use Rattle.machine.proofs.Step.{Took, step-took, took-sound, step_revision}
use Rattle.machine.proofs.Path.{Chain, chain_none, chain_more}
use Rattle.replay.specs.Replay.{Tally, Built, built}
use Rattle.replay.specs.Demand3.{under}
use Rattle.replay.proofs.Verdicts.{Reads, none, reads-append, All, all_append, all_map, Late, late_other, late_timed, late_stack, late_ram}
use Rattle.replay.proofs.Steps.{Fresh, fresh-next, Arrives, Fine, fine_other, fine_timed, fine_stack, fine_ram, step-reads, step-fine}

-- what replay stands at when it has rebuilt the machine m
abbrev pub shadow : Tally → Machine → Cells → Built
shadow l m c = built l m.state.depth (under m.memory.op_stack m.state.depth) c

-- ---- records of a step at clock k or later

pub record Since (v k : ℕ) (r : Record) : Type 0 where
  pub at : ℕ
  pub late : k ≤ at
  pub small : at < 4294967296
  pub fine : Fine v at r

since-less : (v k m : ℕ) → k ≤ m → (r : Record) → Since v m r → Since v k r
since-less v k m h r s = record { at = s.at; late = omega arith; small = s.small; fine = s.fine }

fine-since : (v k : ℕ) → k < 4294967296 → (r : Record) → Fine v k r → Since v k r
fine-since v k h r f = record { at = k; late = omega arith; small = h; fine = f }

fine-late : (v j t : ℕ) (r : Record) → j ≤ t → Fine v t r → Late j r
fine-late v j t r h (fine_other a b c) = late_other
fine-late v j t r h (fine_timed a b c) = late_timed h
fine-late v j t r h (fine_stack a b c) = late_stack h
fine-late v j t r h (fine_ram a b c) = late_ram h

since-late : (v j k : ℕ) → j ≤ k → (r : Record) → Since v k r → Late j r
since-late v j k h r s = fine-late v j s.at r (omega (arith, s.late)) s.fine

-- ---- the log up to clock j, and behind it

pub record Split (j : ℕ) (b : Built) (log : List Record) (x : Machine) : Type 0 where
  pub before : List Record
  pub behind : List Record
  pub counts : Tally
  pub joined : log ≡ before ++ behind
  pub now : Cells
  pub alike : Alike now (M.ram x)
  pub reads : Reads j b before (shadow counts x now)
  pub rest : All (Late j) behind

split-more : {j : ℕ} {b c : Built} {rs log : List Record} {x : Machine} → Reads j b rs c → Split j c log x → Split j b (rs ++ log) x
split-more {rs = rs} h s = record {
  before = rs ++ s.before;
  behind = s.behind;
  counts = s.counts;
  now = s.now;
  alike = s.alike;
  joined = ap (λ (u : List Record). rs ++ u) s.joined ∙ sym (append_assoc rs s.before s.behind);
  reads = reads-append h s.reads;
  rest = s.rest;
}

split-late : (j : ℕ) (l : Tally) {log : List Record} (x : Machine) (c : Cells) → Alike c (M.ram x) → All (Late j) log → Split j (shadow l x c) log x
split-late j l {log} x c al h = record { before = []; behind = log; counts = l; now = c; alike = al; joined = refl; reads = none; rest = h }

-- ---- steps in a row

module _ (decide : Machine → Decision) (facts : (m : Machine) → Sound m → (e : Effect) → decide m ≡ acts e → Facts m e) where
  next_clock : (m x : Machine) → Took m (decide m) x → x.state.clock ≡ m.state.clock + 1
  unfolding performed
  next_clock m x t = ap (λ (y : Machine). y.state.clock) (sym t.is)

  next_records : (m x : Machine) (t : Took m (decide m) x) → records_in m (decide m) ≡ records_of m t.effect
  next_records m x t = rw t.acting

  next-reads : (m x : Machine) → Sound m → Took m (decide m) x → (j : ℕ) → m.state.clock < j → (c : Cells) → Alike c (M.ram m) → (l : Tally) → Fresh l m.state.clock →
      Arrives j m.state.clock (shadow l m c) (records_in m (decide m)) x.state.depth (under x.memory.op_stack x.state.depth) (M.ram x)
  unfolding performed
  next-reads m x s t j early c al l h =
      rw (next_records m x t, ← t.is)
      (step-reads m t.effect s (facts m s t.effect t.acting) (limits_fit m t.effect t.limits) j early c al l h)

  pub chain_fine : {m : Machine} {ms : List Machine} → Chain decide m ms → Sound m → All (Since m.state.revision m.state.clock) (log_from decide m ms)
  unfolding log_from
  chain_fine chain_none s = none
  chain_fine {m} (chain_more {x = x} {xs = xs} e ch) s =
      let t = step-took decide m x e in
      let c : m.state.clock ≤ x.state.clock = omega (arith, next_clock m x t) in
      rw (next_records m x t)
      (all_append
      (all_map (fine-since m.state.revision m.state.clock s.clock) (step-fine m t.effect s (facts m s t.effect t.acting) (limits_fit m t.effect t.limits)))
      (all_map (since-less m.state.revision m.state.clock x.state.clock c) (subst (λ (v : ℕ). All (Since v x.state.clock) (log_from decide x xs)) (step_revision decide m x e) (chain_fine ch (took-sound decide facts m x s t)))))

  pub chain_split : {m : Machine} {ms : List Machine} → Chain decide m ms → Sound m → (j : ℕ) → m.state.clock ≤ j → j ≤ m.state.clock + length ms →
      (c : Cells) → Alike c (M.ram m) → (l : Tally) → Fresh l m.state.clock → (z : Machine) →
      Split j (shadow l m c) (log_from decide m ms) (get_or (m ∷ ms) (j - m.state.clock) z)
  unfolding log_from
  chain_split {m} chain_none s j low high c al l h z =
      let e : j - m.state.clock ≡ 0 = omega arith in
      rw e (split-late j l m c al none)
  chain_split {m} (chain_more {x = x} {xs = xs} e ch) s j low high c al l h z =
      go (ltb m.state.clock j) refl (chain_fine (chain_more e ch) s) (λ n k. chain_split ch (took-sound decide facts m x s (step-took decide m x e)) j n k)
    where
      go : (b : Bool) → ltb m.state.clock j ≡ b →
          All (Since m.state.revision m.state.clock) (records_in m (decide m) ++ log_from decide x xs) →
          (x.state.clock ≤ j → j ≤ x.state.clock + length xs → (d : Cells) → Alike d (M.ram x) → (n : Tally) → Fresh n x.state.clock → (y : Machine) → Split j (shadow n x d) (log_from decide x xs) (get_or (x ∷ xs) (j - x.state.clock) y)) →
          Split j (shadow l m c) (records_in m (decide m) ++ log_from decide x xs) (get_or (m ∷ x ∷ xs) (j - m.state.clock) z)
      go true q f ih =
          let t = step-took decide m x e in
          let o : m.state.clock < j = ltb-true m.state.clock j q in
          let n : x.state.clock ≡ m.state.clock + 1 = next_clock m x t in
          let k = next-reads m x s t j o c al l h in
          let i : j - m.state.clock ≡ suc (j - x.state.clock) = omega arith in
          rw i (split-more k.reads (ih (omega arith) (omega arith) k.now k.alike k.counts (fresh-next k.counts x.state.clock (omega (arith, k.rise))) z))
      go false q f ih =
          let o : j ≤ m.state.clock = ltb-false m.state.clock j q in
          let i : j - m.state.clock ≡ 0 = omega arith in
          rw i (split-late j l m c al (all_map (since-late m.state.revision j m.state.clock o) f))
