-- The calls that take several steps, run, trace_execution and trace_rows, whatever place A says, with a fee table or without, and whatever is lent for records and rows: what they are
-- behind place A, how many steps they take and how they end, that a refused one keeps the steps before the refused one, and that a sound machine is left.
-- Of run: that a run of a + b is a run of a followed by one of b. All of it is read off the path. Assumes nothing.
use mathlib.Core.Path.{◌≡◌, refl, sym, ap, ◌∙◌}
use mathlib.Core.Bool.{Bool, true, false, true≢false}
use Prim.Native.Nat.{ℕ, ◌+◌, ◌-◌, ◌≤◌}
use native.Mathlib.Omega.{arith}
use borrow.Author.Tests.{eq-eqb, ne_eqb, eqb-true, eqb-false}
use lib.Dec.{eqb}
use Rattle.choices.specs.Choice.{cond}
use Rattle.machine.specs.Refusal.{Refusal}
use Rattle.machine.specs.Machine.{Machine}
use Rattle.machine.specs.Effect.{Effect, Decision, acts, drops}
use Rattle.machine.specs.FeeTable.{Fees, checked}
use Rattle.machine.specs.Path.{Full, Ending, halted, spent, full, refused, Path, count, stays, Space, unlogged, too_little, behind, step_log, path_by}
use Rattle.machine.specs.Run.{call_a, call_by, run_by}
use Rattle.machine.specs.Sound.{Sound, Facts}
use Rattle.machine.proofs.PlaceA.{machine-accepted}
use Rattle.machine.proofs.Path.{going_on, joined, Ends, is-spent, Kth, Goes, at-halt, at_budget, at-full, at-refusal, at_drop, by_step, goes, path-ends, path-part, path-kth, Row, row_stays, path-row, RefusedAfter, path-refused, path-sound}

-- one run, then another from what it left
abbrev pub followed : Path → (Machine → Path) → Path
followed p k = joined p (k p.left)

-- where a property holds of a path and of a refusal at once, it holds of a call
by_call : (P : Path → Type 0) (t : Bool) (p : Path) (r : Refusal) (m : Machine) → P p → P (stays (refused r) m) → P (cond t p (stays (refused r) m))
by_call P true p r m h k = h
by_call P false p r m h k = k

module _ (decide : Machine → Decision) where
  -- ---- with a fee table or without, f, and what is lent, s

  module _ (f : Fees) (s : Space) (n : ℕ) (m : Machine) where
    -- what place A and the table find wrong
    abbrev wrong : Refusal
    wrong = checked f (call_a s m)

    pub call-is : wrong.number ≡ 0 → call_by decide f s n m ≡ path_by decide s n m
    unfolding call_by
    call-is h = rw (eq-eqb wrong.number 0 h)

    -- a call that is refused so changes nothing
    pub call-refuses : (wrong.number ≡ 0 → ⊥) → call_by decide f s n m ≡ stays (refused wrong) m
    unfolding call_by
    call-refuses h = rw (ne_eqb wrong.number 0 h)

    -- of a machine and a table that are accepted
    pub call_ends : wrong.number ≡ 0 → Ends n (call_by decide f s n m)
    call_ends h = rw (call-is h) (path-ends decide (goes decide s n m))

    -- of any
    pub call-few : count (call_by decide f s n m) ≤ n
    unfolding call_by
    call-few = by_call (λ p. count p ≤ n) (eqb wrong.number 0) _ wrong m (path-ends decide (goes decide s n m)).few (omega arith)

    -- a row of steps
    pub call-row : Row decide m (call_by decide f s n m)
    unfolding call_by
    call-row = by_call (Row decide m) (eqb wrong.number 0) _ wrong m (path-row decide (goes decide s n m)) (row_stays decide m (refused wrong))

    -- 'run (steps before kept)', of a machine and a table that are accepted
    pub call-refused-after : (w : Refusal) → wrong.number ≡ 0 → (call_by decide f s n m).ending ≡ refused w → RefusedAfter decide m w (call_by decide f s n m)
    call-refused-after w h = rw (call-is h) (path-refused decide (goes decide s n m) w)

  -- ---- run

  -- spent exactly where the count is the budget and the machine left is not halted
  pub run-spent : (f : Fees) (n : ℕ) (m : Machine) → (run_by decide f n m).ending ≡ spent → (count (run_by decide f n m) ≡ n) × ((run_by decide f n m).left.state.halted ≡ false)
  unfolding call_by
  run-spent f n m =
      by_call (λ p. p.ending ≡ spent → (count p ≡ n) × (p.left.state.halted ≡ false)) (eqb (checked f (call_a unlogged m)).number 0) _ (checked f (call_a unlogged m)) m
      (path-ends decide (goes decide unlogged n m)).of_spent
      (λ q. let z : ◌≡◌ {A = ℕ} 0 1 = cc in absurd (omega arith))

  pub spent-run : (f : Fees) (n : ℕ) (m : Machine) → (checked f (call_a unlogged m)).number ≡ 0 → count (run_by decide f n m) ≡ n → (run_by decide f n m).left.state.halted ≡ false → (run_by decide f n m).ending ≡ spent
  spent-run f n m h = is-spent (call_ends f unlogged n m h)

  -- the machines that a run passes are what runs of 1, 2, .. steps leave, up to its count; the machine at its start is what a run of 0 leaves
  pub run-passes : (f : Fees) (n k : ℕ) (m : Machine) → k ≤ count (run_by decide f n m) → Kth k m (run_by decide f n m).machines (run_by decide f k m)
  unfolding call_by
  run-passes f n k m = go (checked f (call_a unlogged m)) (eqb (checked f (call_a unlogged m)).number 0)
    where
      go : (r : Refusal) (t : Bool) → k ≤ count (cond t (path_by decide unlogged n m) (stays (refused r) m)) →
          Kth k m (cond t (path_by decide unlogged n m) (stays (refused r) m)).machines (cond t (path_by decide unlogged k m) (stays (refused r) m))
      go r true q = path-kth decide (goes decide unlogged n m) k q
      go r false q = let z : k ≡ 0 = omega arith in record { left = λ d. rw z; count_is = sym z }

  -- ---- a run of a + b

  going_done : (e : Ending) (p q : Path) → (e ≡ spent → ⊥) → ((w : Full) → e ≡ full w → ⊥) → going_on e p q ≡ p
  going_done halted p q h k = refl
  going_done spent p q h k = absurd (h refl)
  going_done (full w) p q h k = absurd (k w refl)
  going_done (refused r) p q h k = refl

  roomy : {s : Space} {n : ℕ} {m : Machine} {p : Path} → Goes decide s n m p → s ≡ unlogged → (w : Full) → p.ending ≡ full w → ⊥
  roomy (at-halt h) u w q = let z : ◌≡◌ {A = ℕ} 0 1 = cc in omega arith
  roomy (at_budget h) u w q = let z : ◌≡◌ {A = ℕ} 0 1 = cc in omega arith
  roomy {m = m} (at-full h l) u w q = true≢false (sym l ∙ ap (too_little m.state.revision) u)
  roomy (at-refusal h e) u w q = let z : ◌≡◌ {A = ℕ} 0 1 = cc in omega arith
  roomy (at_drop h e) u w q = let z : ◌≡◌ {A = ℕ} 0 1 = cc in omega arith
  roomy {m = m} (by_step h e g) u w q = roomy g (ap (λ (s : Space). behind s (step_log decide m)) u) w q

  -- a path that records nothing is never full
  pub unlogged-roomy : (n : ℕ) (m : Machine) (w : Full) → (path_by decide unlogged n m).ending ≡ full w → ⊥
  unlogged-roomy n m = roomy (goes decide unlogged n m) refl

  -- a run that ends halted or refused is the same with a larger budget
  pub run-done : (f : Fees) (a b : ℕ) (m : Machine) → ((run_by decide f a m).ending ≡ spent → ⊥) → run_by decide f (a + b) m ≡ run_by decide f a m
  unfolding call_by
  run-done f a b m = go (checked f (call_a unlogged m)) (eqb (checked f (call_a unlogged m)).number 0)
    where
      go : (r : Refusal) (t : Bool) → ((cond t (path_by decide unlogged a m) (stays (refused r) m)).ending ≡ spent → ⊥) →
          cond t (path_by decide unlogged (a + b) m) (stays (refused r) m) ≡ cond t (path_by decide unlogged a m) (stays (refused r) m)
      go r true q =
          path-part decide (goes decide unlogged a m) (a + b) (omega arith)
          ∙ going_done (path_by decide unlogged a m).ending (path_by decide unlogged a m) _ q (unlogged-roomy a m)
      go r false q = refl

  module _ (facts : (m : Machine) → Sound m → (e : Effect) → decide m ≡ acts e → Facts m e) where
    module _ (deep : (m : Machine) → Sound m → (r : Refusal) → decide m ≡ drops r → 17 ≤ m.state.depth) where
      pub call-sound : (f : Fees) (s : Space) (n : ℕ) (m : Machine) → Sound m → Sound (call_by decide f s n m).left
      unfolding call_by
      call-sound f s n m h = by_call (λ p. Sound p.left) (eqb (checked f (call_a s m)).number 0) _ (checked f (call_a s m)) m (path-sound decide facts deep (goes decide s n m) h) h

      -- place A accepts every sound machine, so that what is found wrong is the table's alone
      pub sound-checked : (f : Fees) (m x : Machine) → Sound m → Sound x → checked f (call_a unlogged m) ≡ checked f (call_a unlogged x)
      unfolding call_a
      sound-checked f m x s h = rw (machine-accepted m s, machine-accepted x h)

      -- 'a run of a + b is a run of a followed by one of b where the first ends spent'
      pub run_more : (f : Fees) (a b : ℕ) (m : Machine) → Sound m → (run_by decide f a m).ending ≡ spent → run_by decide f (a + b) m ≡ followed (run_by decide f a m) (λ x. run_by decide f b x)
      run_more f a b m s e = go (eqb (checked f (call_a unlogged m)).number 0) refl
        where
          go : (t : Bool) → eqb (checked f (call_a unlogged m)).number 0 ≡ t → run_by decide f (a + b) m ≡ followed (run_by decide f a m) (λ x. run_by decide f b x)
          go true q =
              let o = eqb-true (checked f (call_a unlogged m)).number 0 q in
              let p = path_by decide unlogged a m in
              let k : p.ending ≡ spent = ap (λ (r : Path). r.ending) (sym (call-is f unlogged a m o)) ∙ e in
              let h = path-sound decide facts deep (goes decide unlogged a m) s in
              let l = call-is f unlogged b p.left (ap (λ (r : Refusal). r.number) (sound-checked f p.left m h s) ∙ o) in
              let c : a + b - count p ≡ b = omega (arith, ((path-ends decide (goes decide unlogged a m)).of_spent k).0) in
              call-is f unlogged (a + b) m o
              ∙ path-part decide (goes decide unlogged a m) (a + b) (omega arith)
              ∙ ap (λ (x : Ending). going_on x p (path_by decide unlogged (a + b - count p) p.left)) k
              ∙ ap (λ (i : ℕ). joined p (path_by decide unlogged i p.left)) c
              ∙ rw (call-is f unlogged a m o, l)
          go false q =
              let k = call-refuses f unlogged a m (eqb-false (checked f (call_a unlogged m)).number 0 q) in
              let h : refused (checked f (call_a unlogged m)) ≡ spent = ap (λ (r : Path). r.ending) (sym k) ∙ e in
              let z : ◌≡◌ {A = ℕ} 0 1 = cc in
              absurd (omega arith)
