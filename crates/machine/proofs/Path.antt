-- The laws of a path. Goes says by cases what path_by makes; each law is an induction over it: how many steps there are and how it ends, that it is a
-- row of steps, that it leaves a sound machine, what a refused one leaves, and that with less room or a smaller budget it is the first part of the
-- longer one. Assumes nothing.
use mathlib.Core.Path.{◌≡◌, refl, sym, ap, ◌∙◌}
use mathlib.Core.Bool.{Bool, true, false, true≢false}
use mathlib.Core.List.{List, [], ◌∷◌, ◌++◌, append_assoc}
use Prim.Native.Nat.{ℕ, zero, suc, ◌-◌, ◌≤◌, ◌<◌}
use native.Mathlib.Omega.{arith}
use lib.ListN.{get_or}
use Rattle.choices.specs.Choice.{cond}
use Rattle.machine.specs.Refusal.{Refusal}
use Rattle.machine.specs.Machine.{Machine}
use Rattle.machine.specs.Effect.{Effect, Decision, acts, drops}
use Rattle.machine.specs.Apply.{Outcome, took, kept, lost}
use Rattle.machine.specs.Records.{Record}
use Rattle.machine.specs.Step.{records_in, outcome_by}
use Rattle.machine.specs.Path.{Full, Ending, halted, spent, full, refused, Path, path, count, stays, onward, Space, unlogged, too_little, full_of, behind, step_log, path_by, log_from}
use Rattle.machine.specs.Sound.{Sound, Facts}
use Rattle.machine.proofs.Preserved.{dropped-sound}
use Rattle.machine.proofs.Step.{step-sound, step-lost, step_revision, lost_revision}

-- ---- paths one behind the other

-- a step to x, and p from there
abbrev pub after : Machine → Path → Path
after x p = path (x ∷ p.machines) p.left p.dropped p.ending

abbrev pub joined : Path → Path → Path
joined p q = path (p.machines ++ q.machines) q.left q.dropped q.ending

-- p, and behind it q where p ended only because its budget or the room for it was used up
abbrev pub going_on : Ending → Path → Path → Path
going_on halted p q = p
going_on spent p q = joined p q
going_on (full w) p q = joined p q
going_on (refused r) p q = p

going-after : (e : Ending) (x : Machine) (p q : Path) → after x (going_on e p q) ≡ going_on e (after x p) q
going-after halted x p q = refl
going-after spent x p q = refl
going-after (full w) x p q = refl
going-after (refused r) x p q = refl

-- ---- how a path ends

-- what p says of a path with budget n
pub record Ends (n : ℕ) (p : Path) : Type 0 where
  -- 'the count of run is at most its budget'
  pub few : count p ≤ n
  -- spent: as many steps as the budget, and not halted
  pub of_spent : p.ending ≡ spent → (count p ≡ n) × (p.left.state.halted ≡ false)
  pub of_halted : p.ending ≡ halted → p.left.state.halted ≡ true
  -- a refused step was one of the budget, and so was one for which there was no room
  pub of_refused : (q : Refusal) → p.ending ≡ refused q → count p < n
  pub of_full : (w : Full) → p.ending ≡ full w → count p < n

-- and the other way: as many steps as the budget, and not halted, is spent
pub is-spent : {n : ℕ} {p : Path} → Ends n p → count p ≡ n → p.left.state.halted ≡ false → p.ending ≡ spent
is-spent {n} {p} e c h = go p.ending refl
  where
    go : (x : Ending) → p.ending ≡ x → x ≡ spent
    go halted q = absurd (true≢false (sym (e.of_halted q) ∙ h))
    go spent q = refl
    go (full w) q = let l : count p < n = e.of_full w q in absurd (omega arith)
    go (refused w) q = let l : count p < n = e.of_refused w q in absurd (omega arith)

-- the last of the machines behind m
abbrev pub last_of : Machine → List Machine → Machine
last_of m [] = m
last_of m (x ∷ xs) = last_of x xs

-- of m and the machines after it the k-th is what the path p leaves, and p has taken k steps
pub record Kth (k : ℕ) (m : Machine) (ms : List Machine) (p : Path) : Type 0 where
  pub left : (d : Machine) → get_or (m ∷ ms) k d ≡ p.left
  pub count_is : count p ≡ k

module _ (decide : Machine → Decision) where
  -- ---- by cases

  pub data Goes : Space → ℕ → Machine → Path → Type 0 where
    at-halt : {s : Space} {n : ℕ} {m : Machine} → m.state.halted ≡ true → Goes s n m (stays halted m)
    at_budget : {s : Space} {m : Machine} → m.state.halted ≡ false → Goes s 0 m (stays spent m)
    at-full : {s : Space} {n : ℕ} {m : Machine} → m.state.halted ≡ false → too_little m.state.revision s ≡ true → Goes s (suc n) m (stays (full (full_of m.state.revision s)) m)
    at-refusal : {s : Space} {n : ℕ} {m : Machine} {r : Refusal} → m.state.halted ≡ false → outcome_by decide m ≡ kept r → Goes s (suc n) m (stays (refused r) m)
    at_drop : {s : Space} {n : ℕ} {m x : Machine} {r : Refusal} → m.state.halted ≡ false → outcome_by decide m ≡ lost r x → Goes s (suc n) m (path [] x true (refused r))
    by_step : {s : Space} {n : ℕ} {m x : Machine} {p : Path} → m.state.halted ≡ false → outcome_by decide m ≡ took x → Goes (behind s (step_log decide m)) n x p → Goes s (suc n) m (after x p)

  goes_on : (s : Space) (n : ℕ) (m : Machine) (o : Outcome) → outcome_by decide m ≡ o → m.state.halted ≡ false →
      ((x : Machine) → Goes (behind s (step_log decide m)) n x (path_by decide (behind s (step_log decide m)) n x)) →
      Goes s (suc n) m (onward m (λ x. path_by decide (behind s (step_log decide m)) n x) o)
  goes_on s n m (took x) e h ih = by_step h e (ih x)
  goes_on s n m (kept r) e h ih = at-refusal h e
  goes_on s n m (lost r x) e h ih = at_drop h e

  pub goes : (s : Space) (n : ℕ) (m : Machine) → Goes s n m (path_by decide s n m)
  unfolding path_by
  goes s zero m = go m.state.halted refl
    where
      go : (t : Bool) → m.state.halted ≡ t → Goes s 0 m (stays (cond t halted spent) m)
      go true h = at-halt h
      go false h = at_budget h
  goes s (suc n) m = go m.state.halted (too_little m.state.revision s) refl refl (λ x. goes (behind s (step_log decide m)) n x)
    where
      go : (t u : Bool) → m.state.halted ≡ t → too_little m.state.revision s ≡ u → ((x : Machine) → Goes (behind s (step_log decide m)) n x (path_by decide (behind s (step_log decide m)) n x)) →
          Goes s (suc n) m (cond t (stays halted m) (cond u (stays (full (full_of m.state.revision s)) m) (onward m (λ x. path_by decide (behind s (step_log decide m)) n x) (outcome_by decide m))))
      go true u h l ih = at-halt h
      go false true h l ih = at-full h l
      go false false h l ih = goes_on s n m (outcome_by decide m) refl h ih

  -- ---- what path_by is

  pub path-halted : (s : Space) (n : ℕ) (m : Machine) → m.state.halted ≡ true → path_by decide s n m ≡ stays halted m
  unfolding path_by
  path-halted s zero m h = rw h
  path-halted s (suc n) m h = rw h

  pub path-spent : (s : Space) (m : Machine) → m.state.halted ≡ false → path_by decide s 0 m ≡ stays spent m
  unfolding path_by
  path-spent s m h = rw h

  pub path-full : (s : Space) (n : ℕ) (m : Machine) → m.state.halted ≡ false → too_little m.state.revision s ≡ true → path_by decide s (suc n) m ≡ stays (full (full_of m.state.revision s)) m
  unfolding path_by
  path-full s n m h l = rw (h, l)

  pub path_on : (s : Space) (n : ℕ) (m : Machine) (o : Outcome) → m.state.halted ≡ false → too_little m.state.revision s ≡ false → outcome_by decide m ≡ o →
      path_by decide s (suc n) m ≡ onward m (λ x. path_by decide (behind s (step_log decide m)) n x) o
  unfolding path_by
  path_on s n m o h l e = (rw (h, l)) ∙ ap (onward m (λ x. path_by decide (behind s (step_log decide m)) n x)) e

  -- ---- count and ending

  pub path-ends : {s : Space} {n : ℕ} {m : Machine} {p : Path} → Goes s n m p → Ends n p
  path-ends (at-halt h) = record {
    few = omega arith;
    of_spent = λ q. let z : ◌≡◌ {A = ℕ} 0 1 = cc in absurd (omega arith);
    of_halted = λ q. h;
    of_refused = λ w q. let z : ◌≡◌ {A = ℕ} 0 1 = cc in absurd (omega arith);
    of_full = λ w q. let z : ◌≡◌ {A = ℕ} 0 1 = cc in absurd (omega arith);
  }
  path-ends (at_budget h) = record {
    few = omega arith;
    of_spent = λ q. (refl, h);
    of_halted = λ q. let z : ◌≡◌ {A = ℕ} 0 1 = cc in absurd (omega arith);
    of_refused = λ w q. let z : ◌≡◌ {A = ℕ} 0 1 = cc in absurd (omega arith);
    of_full = λ w q. let z : ◌≡◌ {A = ℕ} 0 1 = cc in absurd (omega arith);
  }
  path-ends (at-full h l) = record {
    few = omega arith;
    of_spent = λ q. let z : ◌≡◌ {A = ℕ} 0 1 = cc in absurd (omega arith);
    of_halted = λ q. let z : ◌≡◌ {A = ℕ} 0 1 = cc in absurd (omega arith);
    of_refused = λ w q. omega arith;
    of_full = λ w q. omega arith;
  }
  path-ends (at-refusal h e) = record {
    few = omega arith;
    of_spent = λ q. let z : ◌≡◌ {A = ℕ} 0 1 = cc in absurd (omega arith);
    of_halted = λ q. let z : ◌≡◌ {A = ℕ} 0 1 = cc in absurd (omega arith);
    of_refused = λ w q. omega arith;
    of_full = λ w q. omega arith;
  }
  path-ends (at_drop h e) = record {
    few = omega arith;
    of_spent = λ q. let z : ◌≡◌ {A = ℕ} 0 1 = cc in absurd (omega arith);
    of_halted = λ q. let z : ◌≡◌ {A = ℕ} 0 1 = cc in absurd (omega arith);
    of_refused = λ w q. omega arith;
    of_full = λ w q. omega arith;
  }
  path-ends (by_step h e g) =
      let k = path-ends g in
      record {
        few = omega (arith, k.few);
        of_spent = λ q. let l = k.of_spent q in (ap suc l.0, l.1);
        of_halted = λ q. k.of_halted q;
        of_refused = λ w q. omega (arith, k.of_refused w q);
        of_full = λ w q. omega (arith, k.of_full w q);
      }

  -- ---- a row of steps

  pub data Chain : Machine → List Machine → Type 0 where
    chain_none : {m : Machine} → Chain m []
    chain_more : {m x : Machine} {xs : List Machine} → outcome_by decide m ≡ took x → Chain x xs → Chain m (x ∷ xs)

  pub chain_append : {m : Machine} {ms xs : List Machine} → Chain m ms → Chain (last_of m ms) xs → Chain m (ms ++ xs)
  chain_append chain_none k = k
  chain_append (chain_more e h) k = chain_more e (chain_append h k)

  -- a path's machines are a row of steps, and it leaves the last of them unless a word was dropped
  pub record Row (m : Machine) (p : Path) : Type 0 where
    pub chain : Chain m p.machines
    pub left : p.dropped ≡ false → p.left ≡ last_of m p.machines

  pub row_stays : (m : Machine) (e : Ending) → Row m (stays e m)
  row_stays m e = record { chain = chain_none; left = λ _. refl }

  pub row_drops : (m x : Machine) (e : Ending) → Row m (path [] x true e)
  row_drops m x e = record { chain = chain_none; left = λ q. absurd (true≢false q) }

  pub path-row : {s : Space} {n : ℕ} {m : Machine} {p : Path} → Goes s n m p → Row m p
  path-row {m = m} (at-halt h) = row_stays m halted
  path-row {m = m} (at_budget h) = row_stays m spent
  path-row {s = s} {m = m} (at-full h l) = row_stays m (full (full_of m.state.revision s))
  path-row {m = m} (at-refusal {r = r} h e) = row_stays m (refused r)
  path-row {m = m} (at_drop {x = x} {r = r} h e) = row_drops m x (refused r)
  path-row (by_step h e g) = let k = path-row g in record { chain = chain_more e k.chain; left = k.left }

  pub log-joined : (m : Machine) (ms xs : List Machine) → log_from decide m (ms ++ xs) ≡ log_from decide m ms ++ log_from decide (last_of m ms) xs
  unfolding log_from
  log-joined m [] xs = refl
  log-joined m (y ∷ ms) xs =
      ap (λ (u : List Record). records_in m (decide m) ++ u) (log-joined y ms xs)
      ∙ sym (append_assoc (records_in m (decide m)) (log_from decide y ms) (log_from decide (last_of y ms) xs))

  -- ---- a part of a longer path

  -- with any room and any budget up to k, a path is the first part of the one with budget k that records nothing
  pub path-part : {s : Space} {n : ℕ} {m : Machine} {p : Path} → Goes s n m p → (k : ℕ) → n ≤ k →
      path_by decide unlogged k m ≡ going_on p.ending p (path_by decide unlogged (k - count p) p.left)
  path-part {m = m} (at-halt h) k l = path-halted unlogged k m h
  path-part {m = m} (at_budget h) k l = let z : k - 0 ≡ k = omega arith in rw z
  path-part {m = m} (at-full h l) k q = let z : k - 0 ≡ k = omega arith in rw z
  path-part {m = m} (at-refusal {r = r} h e) zero q = absurd (omega arith)
  path-part {m = m} (at-refusal {r = r} h e) (suc k) q = path_on unlogged k m (kept r) h refl e
  path-part {m = m} (at_drop h e) zero q = absurd (omega arith)
  path-part {m = m} (at_drop {x = x} {r = r} h e) (suc k) q = path_on unlogged k m (lost r x) h refl e
  path-part (by_step h e g) zero q = absurd (omega arith)
  path-part {m = m} (by_step {x = x} {p = p} h e g) (suc k) q =
      let z : k - count p ≡ suc k - suc (count p) = omega arith in
      path_on unlogged k m (took x) h refl e
      ∙ ap (after x) (path-part g k (omega arith))
      ∙ going-after p.ending x p (path_by decide unlogged (k - count p) p.left)
      ∙ ap (λ (i : ℕ). going_on p.ending (after x p) (path_by decide unlogged i p.left)) z

  -- the machines of a path are what paths of 1, 2, .. steps leave, and m is what one of 0 leaves
  pub path-kth : {s : Space} {n : ℕ} {m : Machine} {p : Path} → Goes s n m p → (k : ℕ) → k ≤ count p → Kth k m p.machines (path_by decide unlogged k m)
  unfolding path_by
  path-kth g zero q = record { left = λ d. refl; count_is = refl }
  path-kth (at-halt h) (suc k) q = absurd (omega arith)
  path-kth (at_budget h) (suc k) q = absurd (omega arith)
  path-kth (at-full h l) (suc k) q = absurd (omega arith)
  path-kth (at-refusal h e) (suc k) q = absurd (omega arith)
  path-kth (at_drop h e) (suc k) q = absurd (omega arith)
  path-kth {s = s} {m = m} (by_step {x = x} h e g) (suc k) q =
      let i = path-kth {s = behind s (step_log decide m)} g k (omega arith) in
      let on = path_on unlogged k m (took x) h refl e in
      record { left = λ d. i.left d ∙ ap (λ (p : Path). p.left) (sym on); count_is = ap (λ (p : Path). count p) on ∙ ap suc i.count_is }

  -- ---- a refused path

  -- what a step from x refused with w leaves: x, or x with the word that skiz drops
  pub data Leaves (x : Machine) (w : Refusal) (left : Machine) : Type 0 where
    all-kept : outcome_by decide x ≡ kept w → left ≡ x → Leaves x w left
    word_dropped : outcome_by decide x ≡ lost w left → Leaves x w left

  -- p, a path from m refused with w: it took as many steps as it counts, to a machine from which the next one is refused, and it leaves
  -- what that one leaves
  pub record RefusedAfter (m : Machine) (w : Refusal) (p : Path) : Type 0 where
    pub before : Machine
    pub steps : path_by decide unlogged (count p) m ≡ path p.machines before false spent
    pub leaves : Leaves before w p.left

  pub path-refused : {s : Space} {n : ℕ} {m : Machine} {p : Path} → Goes s n m p → (w : Refusal) → p.ending ≡ refused w → RefusedAfter m w p
  path-refused (at-halt h) w q = let z : ◌≡◌ {A = ℕ} 0 1 = cc in absurd (omega arith)
  path-refused (at_budget h) w q = let z : ◌≡◌ {A = ℕ} 0 1 = cc in absurd (omega arith)
  path-refused (at-full h l) w q = let z : ◌≡◌ {A = ℕ} 0 1 = cc in absurd (omega arith)
  path-refused {m = m} (at-refusal {r = r} h e) w q = let z : r ≡ w = cc in record { before = m; steps = path-spent unlogged m h; leaves = all-kept (e ∙ ap kept z) refl }
  path-refused {m = m} (at_drop {x = x} {r = r} h e) w q = let z : r ≡ w = cc in record { before = m; steps = path-spent unlogged m h; leaves = word_dropped (e ∙ ap (λ (v : Refusal). lost v x) z) }
  path-refused {m = m} (by_step {x = x} {p = p} h e g) w q =
      let k = path-refused g w q in
      record { before = k.before; steps = path_on unlogged (count p) m (took x) h refl e ∙ ap (after x) k.steps; leaves = k.leaves }

  -- ---- the log's revision stays

  pub path_revision : {s : Space} {n : ℕ} {m : Machine} {p : Path} → Goes s n m p → p.left.state.revision ≡ m.state.revision
  path_revision (at-halt h) = refl
  path_revision (at_budget h) = refl
  path_revision (at-full h l) = refl
  path_revision (at-refusal h e) = refl
  path_revision {m = m} (at_drop {x = x} {r = r} h e) = lost_revision decide m r x e
  path_revision {m = m} (by_step {x = x} h e g) = path_revision g ∙ step_revision decide m x e

  pub chain_revision : {m : Machine} {ms : List Machine} → Chain m ms → (last_of m ms).state.revision ≡ m.state.revision
  chain_revision chain_none = refl
  chain_revision {m} (chain_more {x = x} e c) = chain_revision c ∙ step_revision decide m x e

  -- ---- sound machines

  module _ (facts : (m : Machine) → Sound m → (e : Effect) → decide m ≡ acts e → Facts m e) where
    pub chain_sound : {m : Machine} {ms : List Machine} → Chain m ms → Sound m → Sound (last_of m ms)
    chain_sound chain_none s = s
    chain_sound {m} (chain_more {x = x} e c) s = chain_sound c (step-sound decide facts m x s e)

    -- where what a refusing skiz drops leaves sixteen words, a sound machine is left however a path ends
    module _ (deep : (m : Machine) → Sound m → (r : Refusal) → decide m ≡ drops r → 17 ≤ m.state.depth) where
      pub lost-sound : (m : Machine) (r : Refusal) (x : Machine) → Sound m → outcome_by decide m ≡ lost r x → Sound x
      lost-sound m r x s e =
          let k = step-lost decide m r x e in
          rw (← k.1) (dropped-sound m s (deep m s r k.0))

      pub path-sound : {s : Space} {n : ℕ} {m : Machine} {p : Path} → Goes s n m p → Sound m → Sound p.left
      path-sound (at-halt h) s = s
      path-sound (at_budget h) s = s
      path-sound (at-full h l) s = s
      path-sound (at-refusal h e) s = s
      path-sound {m = m} (at_drop {x = x} {r = r} h e) s = lost-sound m r x s e
      path-sound {m = m} (by_step {x = x} h e g) s = path-sound g (step-sound decide facts m x s e)
