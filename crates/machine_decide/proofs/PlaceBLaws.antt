-- What place B's number says of the decision, and that its sums do not overflow. Assumes nothing.
use mathlib.Core.Path.{◌≡◌, refl, sym, ap, subst, ◌∙◌}
use mathlib.Core.Bool.{Bool, true, false}
use mathlib.Core.List.{List}
use Prim.Native.Nat.{ℕ, ◌+◌, ◌≤◌, ◌<◌}
use native.Mathlib.Omega.{arith}
use borrow.Author.Tests.{ltb-true, leb-true, lt-ltb, le-ltb}
use lib.ListN.{length, get_or}
use lib.Dec.{ltb, leb}
use Rattle.machine.specs.declared.state.VMState.{VMState}
use Rattle.choices.specs.Choice.{cond}
use Rattle.machine.specs.Refusal.{plainly}
use Rattle.machine.specs.Instruction.{Change, grows, shrinks, grows_by_argument, shrinks_by_argument, table, Decoded, known, unknown, decode, grown_by, shrunk_by}
use Rattle.machine_isa.specs.InstructionView.{grown_in, shrunk_in}
use Rattle.machine.specs.Machine.{Machine}
use Rattle.machine.specs.Effect.{refuses}
use Rattle.machine.specs.Decide.{opcode_of, argument_of, effect_of, decide_in, decide_of}
use Rattle.machine.proofs.Weighed.{all_of, all-decode}
use Rattle.machine_decide.specs.DecideView.{act_in}
use Rattle.machine_decide.specs.PlaceBView.{shallow, place_b}

-- ---- a change is by sixteen words at most, or by the argument

abbrev small : Change → Bool
small (grows k) = leb k 16
small (shrinks k) = leb k 16
small grows_by_argument = true
small shrinks_by_argument = true

all_small_lem : all_of (λ r. small r.change) table ≡ true
unfolding table
all_small_lem = refl

record Small (c : Change) (n : ℕ) : Type 0 where
  grown : grown_by c n ≤ n + 16
  shrunk : shrunk_by c n ≤ n + 16

small-change : (c : Change) (n : ℕ) → small c ≡ true → Small c n
small-change (grows k) n h = record { grown = omega (arith, leb-true k 16 h); shrunk = omega arith }
small-change (shrinks k) n h = record { grown = omega arith; shrunk = omega (arith, leb-true k 16 h) }
small-change grows_by_argument n h = record { grown = omega arith; shrunk = omega arith }
small-change shrinks_by_argument n h = record { grown = omega arith; shrunk = omega arith }

few : (op n : ℕ) (d : Decoded) → decode op ≡ d → (grown_in d n ≤ n + 16) × (shrunk_in d n ≤ n + 16)
few op n unknown e = (omega arith, omega arith)
few op n (known r) e = let k = small-change r.change n (all-decode (λ r. small r.change) op r all_small_lem e) in (k.grown, k.shrunk)

pub grown_few : (op n : ℕ) → grown_in (decode op) n ≤ n + 16
grown_few op n = (few op n (decode op) refl).0

pub shrunk_few : (op n : ℕ) → shrunk_in (decode op) n ≤ n + 16
shrunk_few op n = (few op n (decode op) refl).1

-- ---- the number and the decision

abbrev number_at : Machine → ℕ
number_at m = place_b m.state m.code.opcodes m.code.arguments

-- what it says: nothing, and the slot's instruction decides; or a number, which is the refusal's
data Says (m : Machine) : ℕ → Type 0 where
  passes : m.state.pointer < length m.code.opcodes → decide_of m ≡ act_in (decode (opcode_of m)) (argument_of m) m → Says m 0
  turns : {n : ℕ} → 0 < n → decide_of m ≡ refuses (plainly n) → Says m n

b_halted : (m : Machine) → m.state.halted ≡ true → (number_at m ≡ 10) × (decide_of m ≡ refuses (plainly 10))
unfolding place_b decide_of
b_halted m e = (rw e, rw e)

b_outside : (m : Machine) → m.state.halted ≡ false → ltb m.state.pointer (length m.code.opcodes) ≡ false → (number_at m ≡ 11) × (decide_of m ≡ refuses (plainly 11))
unfolding place_b decide_of
b_outside m e f = (rw (e, f), rw (e, f))

b_inside : (m : Machine) → m.state.halted ≡ false → ltb m.state.pointer (length m.code.opcodes) ≡ true →
    (number_at m ≡ shallow m.state.depth (opcode_of m) (argument_of m)) × (decide_of m ≡ decide_in (decode (opcode_of m)) (argument_of m) m)
unfolding place_b decide_of
b_inside m e f = (rw (e, f), rw (e, f))

in_slot : (m : Machine) → 16 ≤ m.state.depth → m.state.pointer < length m.code.opcodes → (d : Decoded) → decode (opcode_of m) ≡ d → decide_of m ≡ decide_in d (argument_of m) m →
    Says m (cond (ltb (m.state.depth + grown_in d (argument_of m)) (16 + shrunk_in d (argument_of m))) 12 0)
in_slot m deep h unknown e k = go (ltb (m.state.depth + 0) (16 + 0)) refl
  where
    go : (t : Bool) → ltb (m.state.depth + 0) (16 + 0) ≡ t → Says m (cond t 12 0)
    go true q = let z : m.state.depth + 0 < 16 + 0 = ltb-true (m.state.depth + 0) (16 + 0) q in absurd (omega arith)
    go false q = passes h (k ∙ ap (λ (d : Decoded). act_in d (argument_of m) m) (sym e))
in_slot m deep h (known r) e k = go (ltb (m.state.depth + grown_by r.change (argument_of m)) (16 + shrunk_by r.change (argument_of m))) k
  where
    go : (t : Bool) → decide_of m ≡ cond t (refuses (plainly 12)) (effect_of r.instruction (argument_of m) m) → Says m (cond t 12 0)
    go true q = turns {n = 12} (omega arith) q
    go false q = passes h (q ∙ ap (λ (d : Decoded). act_in d (argument_of m) m) (sym e))

says : (m : Machine) → 16 ≤ m.state.depth → Says m (number_at m)
says m deep = go m.state.halted (ltb m.state.pointer (length m.code.opcodes)) refl refl
  where
    go : (t u : Bool) → m.state.halted ≡ t → ltb m.state.pointer (length m.code.opcodes) ≡ u → Says m (number_at m)
    go true u e f = let k = b_halted m e in subst (Says m) (sym k.0) (turns {n = 10} (omega arith) k.1)
    go false false e f = let k = b_outside m e f in subst (Says m) (sym k.0) (turns {n = 11} (omega arith) k.1)
    go false true e f =
        let k = b_inside m e f in
        subst (Says m) (sym k.0) (in_slot m deep (ltb-true m.state.pointer (length m.code.opcodes) f) (decode (opcode_of m)) refl k.1)

says_none : {m : Machine} {n : ℕ} → Says m n → n ≡ 0 → (m.state.pointer < length m.code.opcodes) × (decide_of m ≡ act_in (decode (opcode_of m)) (argument_of m) m)
says_none (passes h e) z = (h, e)
says_none (turns a e) z = absurd (omega arith)

says_some : {m : Machine} {n : ℕ} → Says m n → 0 < n → decide_of m ≡ refuses (plainly n)
says_some (passes h e) z = absurd (omega arith)
says_some (turns a e) z = e

-- no number: the slot's instruction decides
pub b_passes : (m : Machine) {n : ℕ} → 16 ≤ m.state.depth → n ≡ number_at m → n ≡ 0 → (m.state.pointer < length m.code.opcodes) × (decide_of m ≡ act_in (decode (opcode_of m)) (argument_of m) m)
b_passes m deep e z = says_none (says m deep) (sym e ∙ z)

-- a number: it is the refusal's
pub b_turns : (m : Machine) {n : ℕ} → 16 ≤ m.state.depth → n ≡ number_at m → 0 < n → decide_of m ≡ refuses (plainly n)
b_turns m deep e h = says_some (subst (Says m) (sym e) (says m deep)) h

-- ---- the number from its tests

pub b_here : (s : VMState) (o a : List ℕ) {r : ℕ} → s.halted ≡ false → s.pointer < length o → r ≡ shallow s.depth (get_or o s.pointer 0) (get_or a s.pointer 0) → r ≡ place_b s o a
unfolding place_b
b_here s o a e h k = rw (e, lt-ltb s.pointer (length o) h) k

pub shallow-is : (d op n : ℕ) {g h : ℕ} → g ≡ grown_in (decode op) n → h ≡ shrunk_in (decode op) n → d + g < 16 + h → 12 ≡ shallow d op n
shallow-is d op n e f k = rw (← e, ← f, lt-ltb _ _ k)

pub shallow-not : (d op n : ℕ) {g h : ℕ} → g ≡ grown_in (decode op) n → h ≡ shrunk_in (decode op) n → 16 + h ≤ d + g → 0 ≡ shallow d op n
shallow-not d op n e f k = rw (← e, ← f, le-ltb _ _ k)
