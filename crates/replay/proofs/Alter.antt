-- A read whose value is another one is refused. Assumes nothing.
use mathlib.Core.Path.{◌≡◌, refl, sym, ap, subst, ◌∙◌}
use mathlib.Core.Bool.{Bool, true, false}
use mathlib.Core.List.{List, [], ◌∷◌, ◌++◌}
use Prim.Native.Nat.{ℕ, ◌-◌, ◌<◌}
use native.Mathlib.Omega.{arith}
use lib.ListN.{get_or}
use Rattle.choices.specs.Choice.{cond, first_of, differ_of}
use Rattle.machine.specs.Ram.{held}
use Rattle.machine.specs.Bytes.{bytes_of, is_word}
use Rattle.machine.specs.Records.{Record, other, timed, stack, ram}
use Rattle.choices.proofs.Choice.{first_zero, first-left, first-nil, above-not, differ_is, differ_nil}
use Rattle.replay.specs.Replay.{Built, word40, fields40, stack_fault, ram_fault, stack_turn, ram_turn, wrong, goes, judged, read_of, bad, onward, replay_records}
use Rattle.replay.specs.Demand3.{Read, of_stack, of_ram}
use Rattle.replay.proofs.Verdicts.{Reads, none, more, All, Late, late_stack, late_ram, replay_on, judged-wrong, judged-went}

-- ---- replay comes to the record

head_same : (x y : Record) (xs ys : List Record) → x ∷ xs ≡ y ∷ ys → x ≡ y
head_same x y xs ys e = cc

tail_same : (x y : Record) (xs ys : List Record) → x ∷ xs ≡ y ∷ ys → xs ≡ ys
tail_same x y xs ys e = cc

all-at : {P : Record → Type 0} (before : List Record) (r : Record) (after : List Record) → All P (before ++ r ∷ after) → P r
all-at [] r after (more p h) = p
all-at (x ∷ xs) r after (more p h) = all-at xs r after h

-- replay comes to the record r behind the records before it, and reads it
record Reached (j : ℕ) (b : Built) (before : List Record) (r : Record) : Type 0 where
  at : Built
  then : Built
  reads : Reads j b before at
  read : read_of j at r ≡ goes then

reached : {j : ℕ} {b c : Built} {early : List Record} (late before : List Record) (r : Record) (after : List Record) →
    Reads j b early c → All (Late j) late → early ++ late ≡ before ++ r ∷ after → (Late j r → ⊥) → Reached j b before r
reached {j} late before r after none l e n = absurd (n (all-at before r after (subst (All (Late j)) e l)))
reached {j} {b} late [] r after (more {c = d} {r = x} {rs = rs} q h) l e n =
    record { at = b; then = d; reads = none; read = rw (← head_same x r (rs ++ late) after e) q }
reached {j} {b} late (y ∷ ys) r after (more {c = d} {r = x} {rs = rs} q h) l e n =
    let k = reached late ys r after h l (tail_same x y (rs ++ late) (ys ++ r ∷ after) e) n in
    let q2 : read_of j b y ≡ goes d = rw (← head_same x y (rs ++ late) (ys ++ r ∷ after) e) q in
    record { at = k.at; then = k.then; reads = more q2 k.reads; read = k.read }

-- ---- and finds the fault

-- the record with another value
unfoldable pub changed : Record → ℕ → Record
changed (other k b) x = other k b
changed (timed k t b) x = timed k t b
changed (stack t q d v) x = stack t q d x
changed (ram t a v d) x = ram t a x d

-- the fault of a read with the value x, which is another than it was
abbrev pub fault_of : ℕ → ℕ
fault_of x = cond (is_word (bytes_of 8 x)) 43 40

fault_not : (x : ℕ) → fault_of x ≡ 0 → ⊥
fault_not x = go (is_word (bytes_of 8 x))
  where
    go : (t : Bool) → cond {A = ℕ} t 43 40 ≡ 0 → ⊥
    go true e = omega arith
    go false e = omega arith

fields_address : (q v : ℕ) → fields40 0 q v ≡ 0 → word40 (bytes_of 8 q) ≡ 0
unfolding fields40
fields_address q v h = (first-nil _ _ (first-nil _ _ h).1).0

fields_value : (q x : ℕ) → word40 (bytes_of 8 q) ≡ 0 → fields40 0 q x ≡ word40 (bytes_of 8 x)
unfolding fields40
fields_value q x h = first_zero _ _ (above-not 0 1 40 (omega arith)) ∙ first_zero _ _ h

fault_is : (q x m k : ℕ) → word40 (bytes_of 8 q) ≡ 0 → m ≡ 0 → k ≡ 43 → first_of (fields40 0 q x) (first_of m k) ≡ fault_of x
unfolding word40
fault_is q x m k h e f = rw (fields_value q x h) (go (is_word (bytes_of 8 x)))
  where
    go : (t : Bool) → first_of (cond t 0 40) (first_of m k) ≡ cond t 43 40
    go true = first_zero 0 (first_of m k) refl ∙ first_zero m k e ∙ f
    go false = first-left 40 (first_of m k) (λ z. omega arith)

-- 43 comes before 45
differs_43 : (x y n : ℕ) → (x ≡ y → ⊥) → first_of (differ_of x y 43) n ≡ 43
differs_43 x y n h =
    let e = differ_is x y 43 h in
    first-left _ n (λ z. absurd (omega arith)) ∙ e

stack_43 : (b : Built) (t q v x : ℕ) → (x ≡ v → ⊥) → stack_fault b t q 0 v ≡ 0 → stack_fault b t q 0 x ≡ 43
unfolding stack_fault
stack_43 b t q v x n h =
    let a = first-nil _ _ h in
    let c = first-nil _ _ a.1 in
    let w = differ_nil v (get_or b.words (b.depth - 17) 0) 43 (omega arith) (first-nil _ _ c.1).0 in
    first_zero _ _ a.0 ∙ first_zero _ _ c.0 ∙ differs_43 x (get_or b.words (b.depth - 17) 0) _ (λ z. n (z ∙ sym w))

ram_43 : (b : Built) (t a v x : ℕ) → (x ≡ v → ⊥) → ram_fault b t a v 0 ≡ 0 → ram_fault b t a x 0 ≡ 43
unfolding ram_fault
ram_43 b t a v x n h =
    let w = differ_nil v (held b.cells a) 43 (omega arith) (first-nil _ _ h).0 in
    differs_43 x (held b.cells a) _ (λ z. n (z ∙ sym w))

wrong-is : (j t n m : ℕ) (b : Built) → t < j → n ≡ m → (m ≡ 0 → ⊥) → judged j t n b ≡ wrong m
wrong-is j t n m b h e k = rw e (judged-wrong j t m b h k)

-- a read that replay took, with another value
read-other : (j : ℕ) (b c : Built) (r : Record) (v x : ℕ) → Read j r v → (x ≡ v → ⊥) → read_of j b r ≡ goes c → read_of j b (changed r x) ≡ wrong (fault_of x)
unfolding read_of changed
read-other j b c r v x (of_stack {t = t} {q = q} h) n e =
    let z = first-nil _ _ (judged-went j t _ (stack_turn b t 0 v) c e).0 in
    let y = first-nil _ _ z.1 in
    wrong-is j t _ (fault_of x) (stack_turn b t 0 x) h (fault_is q x _ _ (fields_address q v z.0) y.0 (stack_43 b t q v x n y.1)) (fault_not x)
read-other j b c r v x (of_ram {t = t} {a = a} h) n e =
    let z = first-nil _ _ (judged-went j t _ (ram_turn b t a v 0) c e).0 in
    let y = first-nil _ _ z.1 in
    wrong-is j t _ (fault_of x) (ram_turn b t a x 0) h (fault_is a x _ _ (fields_address a v z.0) y.0 (ram_43 b t a v x n y.1)) (fault_not x)

read-not-late : (j : ℕ) (r : Record) (v : ℕ) → Read j r v → Late j r → ⊥
read-not-late j r v (of_stack h) (late_stack k) = omega arith
read-not-late j r v (of_ram h) (late_ram k) = omega arith

pub replay_other : {j : ℕ} {b c : Built} {early : List Record} (late before : List Record) (r : Record) (after : List Record) (v x : ℕ) →
    Reads j b early c → All (Late j) late → early ++ late ≡ before ++ r ∷ after → Read j r v → (x ≡ v → ⊥) →
    replay_records j b (before ++ changed r x ∷ after) ≡ bad (fault_of x)
unfolding replay_records
replay_other {j} late before r after v x h l e d n =
    let k = reached late before r after h l e (read-not-late j r v d) in
    replay_on (changed r x ∷ after) k.reads ∙ ap (onward k.at (λ y. replay_records j y after)) (read-other j k.at k.then r v x d n k.read)
