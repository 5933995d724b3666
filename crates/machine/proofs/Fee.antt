-- What steps cost: of steps and more steps the sum, so that it does not matter how they are cut into calls; and it fits 64 bits, since a job's clock
-- bounds its steps. Assumes nothing.
use mathlib.Core.Path.{◌≡◌, refl, sym, ap, ◌∙◌}
use mathlib.Core.Bool.{Bool, true, false}
use mathlib.Core.List.{List, [], ◌∷◌, ◌++◌}
use Prim.Native.Nat.{ℕ, ◌+◌, ◌*◌, ◌≤◌, ◌<◌}
use native.Mathlib.Omega.{arith}
use lib.ListN.{length}
use lib.Dec.{eqb}
use Rattle.choices.specs.Choice.{cond}
use Rattle.machine.specs.Refusal.{Refusal}
use Rattle.machine.specs.Instruction.{known_in, decode}
use Rattle.machine.specs.Machine.{Machine}
use Rattle.machine.specs.Effect.{Decision}
use Rattle.machine.specs.Decide.{opcode_of, decide_of}
use Rattle.machine.specs.Apply.{took}
use Rattle.machine.specs.Step.{outcome_by}
use Rattle.machine.specs.Path.{Space, unlogged, Path, stays, spent, refused, path_by}
use Rattle.machine.specs.FeeTable.{Fees, checked}
use Rattle.machine.specs.Fee.{price_in, fee_from, fee_of}
use Rattle.machine.specs.Run.{call_a, call_by, run_of}
use Rattle.machine.specs.Sound.{Sound}
use Rattle.machine.proofs.Preserved.{performed_clock}
use Rattle.machine.proofs.Step.{step-took, step-sound}
use Rattle.machine.proofs.Path.{last_of, Goes, at-halt, at_budget, at-full, at-refusal, at_drop, by_step, goes, Chain, chain_none, chain_more, chain_sound}
use Rattle.machine.proofs.Run.{run_more}
use Rattle.machine.proofs.Facts.{facts, done, per_access}
use Rattle.machine.proofs.Drops.{drops-deep}

-- a step that is taken starts at a slot with one of the 46 instructions
pub record Priced (m : Machine) : Type 0 where
  pub here : m.state.pointer < length m.code.opcodes
  pub known : known_in (decode (opcode_of m)) ≡ true

pub took-priced : (m x : Machine) → Sound m → outcome_by decide_of m ≡ took x → Priced m
took-priced m x s e =
    let t = step-took decide_of m x e in
    let d = done per_access m s t.effect t.acting in
    record { here = d.here; known = ap known_in d.is }

pub step_clock : (decide : Machine → Decision) (m x : Machine) → outcome_by decide m ≡ took x → x.state.clock ≡ m.state.clock + 1
step_clock decide m x h = let k = step-took decide m x h in rw (← k.is) (performed_clock m k.effect)

-- ---- sums

module _ (price : ℕ → ℕ) where
  pub fee_joined : (m : Machine) (ms xs : List Machine) → fee_from price m (ms ++ xs) ≡ fee_from price m ms + fee_from price (last_of m ms) xs
  unfolding fee_from
  fee_joined m [] xs = omega arith
  fee_joined m (y ∷ ms) xs = omega (arith, fee_joined y ms xs)

  module _ (narrow : (o : ℕ) → price o ≤ 4294967295) where
    pub fee_few : (m : Machine) (ms : List Machine) → fee_from price m ms ≤ length ms * 4294967295
    unfolding fee_from
    fee_few m [] = omega arith
    fee_few m (x ∷ xs) = let h = narrow (opcode_of m) in omega (arith, fee_few x xs)

-- a path that ends spent has dropped no word, so that it leaves the last of its machines
spent-left : {s : Space} {n : ℕ} {m : Machine} {p : Path} → Goes decide_of s n m p → p.ending ≡ spent → p.left ≡ last_of m p.machines
spent-left (at-halt h) e = refl
spent-left (at_budget h) e = refl
spent-left (at-full h l) e = refl
spent-left (at-refusal h k) e = refl
spent-left (at_drop h k) e = let z : ◌≡◌ {A = ℕ} 0 1 = cc in absurd (omega arith)
spent-left (by_step h k g) e = spent-left g e

run-left : (f : Fees) (n : ℕ) (m : Machine) → (run_of f n m).ending ≡ spent → (run_of f n m).left ≡ last_of m (run_of f n m).machines
unfolding call_by
run-left f n m = go (checked f (call_a unlogged m)) (eqb (checked f (call_a unlogged m)).number 0)
  where
    go : (r : Refusal) (t : Bool) → (cond t (path_by decide_of unlogged n m) (stays (refused r) m)).ending ≡ spent →
        (cond t (path_by decide_of unlogged n m) (stays (refused r) m)).left ≡ last_of m (cond t (path_by decide_of unlogged n m) (stays (refused r) m)).machines
    go r true e = spent-left (goes decide_of unlogged n m) e
    go r false e = refl

-- 'the fee of a run of a + b is the sum of both', where the first ends spent
pub run_fee : (f : Fees) (a b : ℕ) (m : Machine) → Sound m → (run_of f a m).ending ≡ spent →
    fee_of f m (run_of f (a + b) m).machines ≡ fee_of f m (run_of f a m).machines + fee_of f (run_of f a m).left (run_of f b (run_of f a m).left).machines
run_fee f a b m s e =
    let p = run_of f a m in
    let k : (run_of f (a + b) m).machines ≡ p.machines ++ (run_of f b p.left).machines = ap (λ (q : Path). q.machines) (run_more decide_of facts (λ m s r e. drops-deep m r e) f a b m s e) in
    ap (fee_of f m) k
    ∙ fee_joined (price_in f) m p.machines (run_of f b p.left).machines
    ∙ ap (λ (x : Machine). fee_of f m p.machines + fee_of f x (run_of f b p.left).machines) (sym (run-left f a m e))

-- two prices that agree on the 46 opcodes give the same fee
pub fee_alike : (f g : ℕ → ℕ) → ((o : ℕ) → known_in (decode o) ≡ true → f o ≡ g o) → {m : Machine} {ms : List Machine} → Chain decide_of m ms → Sound m → fee_from f m ms ≡ fee_from g m ms
unfolding fee_from
fee_alike f g h chain_none s = refl
fee_alike f g h {m} (chain_more {x = x} e c) s =
    let k = h (opcode_of m) (took-priced m x s e).known in
    omega (arith, k, fee_alike f g h c (step-sound decide_of facts m x s e))

-- ---- 64 bits

chain_clock : (decide : Machine → Decision) {m : Machine} {ms : List Machine} → Chain decide m ms → (last_of m ms).state.clock ≡ m.state.clock + length ms
chain_clock decide chain_none = omega arith
chain_clock decide {m} (chain_more {x = x} e c) = omega (arith, chain_clock decide c, step_clock decide m x e)

-- of fees of 32 bits, whatever calls the steps are cut into
pub fee_fits : (price : ℕ → ℕ) → ((o : ℕ) → price o ≤ 4294967295) → {m : Machine} {ms : List Machine} → Chain decide_of m ms → Sound m → fee_from price m ms < 18446744073709551616
fee_fits price narrow {m} {ms} c s =
    let few = fee_few price narrow m ms in
    let k : length ms ≤ 4294967295 = omega (arith, chain_clock decide_of c, (chain_sound decide_of facts c s).clock) in
    omega (arith, few, k)
