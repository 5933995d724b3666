-- What the code of the helper variables needs of lists and of a match's arms; and that a sound machine gives what it relies
-- on. Assumes nothing.
use mathlib.Core.Path.{◌≡◌, refl, sym, ap, subst, ◌∙◌}
use mathlib.Core.Bool.{Bool, true, false}
use mathlib.Core.Logic.{inl, inr}
use mathlib.Core.List.{List, [], ◌∷◌}
use Prim.Native.Nat.{ℕ, zero, suc, ◌+◌, ◌≤◌, ◌<◌}
use native.Mathlib.Numerals.{add-one}
use native.Mathlib.Omega.{arith}
use borrow.Author.Tests.{lt-ltb, le-ltb}
use lib.ListN.{length, get_or, take}
use lib.Dec.{ltb}
use Rattle.machine_effects.specs.declared.memory.Row.{Row}
use Rattle.choices.specs.Choice.{cond}
use Rattle.machine.specs.Instruction.{decode}
use Rattle.machine.specs.Ram.{Cells}
use Rattle.machine.specs.Machine.{Machine, machine, code, memory}
use Rattle.machine.specs.Decide.{opcode_of, argument_of}
use Rattle.machine.specs.HelperVariables.{filled, helpers_in, helpers_at}
use Rattle.machine.specs.Memory.{words_up}
use Rattle.machine_effects.specs.MemoryView.{ReadBy}
use Rattle.machine.specs.Sound.{Sound}
use Rattle.machine_helpers.specs.HelpersView.{Shows, HelpersOf, Helpable, HelpersAlike, HelpersAre}
use Rattle.machine_helpers.specs.declared.seen.Seen.{Seen}
use Rattle.machine_isa.proofs.TableLaws.{OneOf}

-- ---- the first words of a row

-- the n elements from place i on
abbrev pub from : List ℕ → ℕ → ℕ → List ℕ
from s i zero = []
from s i (suc n) = get_or s i 0 ∷ from s (i + 1) n

from_tail : (x : ℕ) (s : List ℕ) (i n : ℕ) → from (x ∷ s) (suc i) n ≡ from s i n
from_tail x s i zero = refl
from_tail x s i (suc n) = rw (add-one (suc i), add-one i) (ap (λ (r : List ℕ). get_or s i 0 ∷ r) (from_tail x s (suc i) n))

pub from_front : (s : List ℕ) (n : ℕ) → n ≤ length s → from s 0 n ≡ take n s
from_front s zero h = refl
from_front [] (suc n) h = absurd (omega arith)
from_front (x ∷ s) (suc n) h = ap (λ (r : List ℕ). x ∷ r) (from_tail x s 0 n ∙ from_front s n (omega arith))

pub took : (s l : List ℕ) (n : ℕ) → n ≤ length s → take n s ≡ l → l ≡ from s 0 n
took s l n h e = sym e ∙ sym (from_front s n h)

-- the words of a row of reads
pub up_front : {c : Cells} {a n : ℕ} {r : Row} → ReadBy 1 c a n r → length r.words ≡ 16 → n ≤ 16 → words_up c a n ≡ from r.words 0 n
up_front {c} {a} {n} {r} e l h = took r.words (words_up c a n) n (omega arith) e.words

-- ---- arms

-- P of each of an arm's numbers
abbrev pub EachOf : (ℕ → Type 0) → List ℕ → Type 0
EachOf P [] = Unit {0}
EachOf P (k ∷ ks) = P k × EachOf P ks

pub each_of : (P : ℕ → Type 0) (ks : List ℕ) → EachOf P ks → (x : ℕ) → OneOf x ks → P x
each_of P [] t x h = absurd h
each_of P (k ∷ []) t x h = subst P (sym h) t.0
each_of P (k ∷ l ∷ ks) t x (inl h) = subst P (sym h) t.0
each_of P (k ∷ l ∷ ks) t x (inr h) = each_of P (l ∷ ks) t.1 x h

pub no_words : (s : List ℕ) → length s ≡ 0 → s ≡ []
no_words [] e = refl
no_words (x ∷ s) e = absurd (omega arith)

-- ---- what a sound machine gives

pub sound-helpable : (m : Machine) → Sound m → Helpable m
sound-helpable m s =
    record {
      slots = s.code.slots;
      deep = s.deep;
      used = s.op_stack.used;
      words = s.op_stack.words;
      digests = s.digests;
      usable = record { ordered = record { within = s.cells.used; ascending = s.cells.ascending }; values = rw (← s.cells.pair) s.cells.used };
    }

-- ---- machines that show the same

pub shows_alike : {m x : Machine} {s : Seen} → HelpersAlike m x → Shows m s → Shows x s
shows_alike a h =
    record {
      top = a.top ∙ h.top;
      pointer = a.pointer ∙ h.pointer;
      opcodes = a.opcodes ∙ h.opcodes;
      arguments = a.arguments ∙ h.arguments;
      digests = a.digests ∙ h.digests;
      cells = a.cells ∙ h.cells;
    }

pub of_machine : (m : Machine) {s : Seen} {r : List ℕ} → HelpersOf s r → Shows m s → (r ≡ helpers_at m) × HelpersAre m r
of_machine m k h = (k.is m h, record { is = λ x a. k.is x (shows_alike a h) })

-- inputs, jump stack and output may be others
pub alike_slices : (m : Machine) (public secret origins destinations output : List ℕ) →
    HelpersAlike m (machine m.state (code m.code.opcodes m.code.arguments public secret m.code.digests) (memory m.memory.op_stack origins destinations m.memory.addresses m.memory.values output))
alike_slices m public secret origins destinations output = record { top = refl; pointer = refl; opcodes = refl; arguments = refl; digests = refl; cells = refl }

-- ---- the machine that shows what is handed

slot_is : (m : Machine) {o a : List ℕ} {pointer : ℕ} → m.state.pointer ≡ pointer → m.code.opcodes ≡ o → m.code.arguments ≡ a → (opcode_of m ≡ get_or o pointer 0) × (argument_of m ≡ get_or a pointer 0)
slot_is m p o a = ((λ i. get_or (o i) (p i) 0), (λ i. get_or (a i) (p i) 0))

module _ (m : Machine) {pointer : ℕ} {o : List ℕ} (p : m.state.pointer ≡ pointer) (q : m.code.opcodes ≡ o) where
  pub slot_helpers : {a r : List ℕ} → m.code.arguments ≡ a → pointer < length o → r ≡ filled (helpers_in (decode (get_or o pointer 0)) (get_or a pointer 0) m) → r ≡ helpers_at m
  unfolding helpers_at
  slot_helpers e l x =
      let k = slot_is m p q e in
      let t : ltb m.state.pointer (length m.code.opcodes) ≡ true = rw (p, q) (lt-ltb pointer (length o) l) in
      x
      ∙ (λ i. filled (helpers_in (decode (sym k.0 i)) (sym k.1 i) m))
      ∙ ap (λ (b : Bool). filled (cond b (helpers_in (decode (opcode_of m)) (argument_of m) m) [])) (sym t)

  pub outside_helpers : length o ≤ pointer → filled [] ≡ helpers_at m
  unfolding helpers_at
  outside_helpers l =
      let t : ltb m.state.pointer (length m.code.opcodes) ≡ false = rw (p, q) (le-ltb pointer (length o) l) in
      ap (λ (b : Bool). filled (cond b (helpers_in (decode (opcode_of m)) (argument_of m) m) [])) (sym t)
