-- What the code of a row needs of lists; and that a sound machine gives what it relies on. Assumes nothing.
use mathlib.Core.Path.{◌≡◌, refl, sym, ap, subst, ◌∙◌}
use mathlib.Core.Bool.{Bool, true, false, true≢false}
use mathlib.Core.List.{List, [], ◌∷◌, ◌++◌, append-nil}
use Prim.Native.Nat.{ℕ, ◌+◌, ◌*◌, ◌/◌, ◌%◌, ◌^◌}
use native.Mathlib.Omega.{arith}
use lib.ListN.{length, get_or, drop, drop_of_length-le}
use lib.Seq.{sets, sets-eq, take_all}
use borrow.Rule.Slice.PartMut.{put_mid}
use lib.Dec.{eqb, ltb}
use Rattle.choices.specs.Choice.{cond}
use Rattle.machine.specs.Instruction.{size_of}
use Rattle.machine.specs.declared.state.VMState.{VMState}
use Rattle.machine.specs.Ram.{cells}
use Rattle.machine.specs.Machine.{Machine, jump_top, top_of, top}
use Rattle.machine.specs.HelperVariables.{next_opcode, helpers_at}
use Rattle.machine.specs.Sound.{Sound}
use Rattle.machine.specs.ProcessorRow.{current_instruction, next_instruction_or_argument, instruction_bits, jump_words, stack_words, row_of}
use Rattle.machine_decide.specs.DecideView.{last_of}
use Rattle.machine_log.proofs.Logged.{logged_none, put_logged}
use Rattle.machine_helpers.proofs.HelpersLaws.{took, sound-helpable}
use Rattle.machine_helpers.specs.HelpersView.{HelpersAlike, HelpersAre}
use Rattle.machine_rows.specs.RowView.{Rowable, Shown, shown_in, row_alike, RowTaken, RowPut}

-- the top of the jump stack
pub jump_is : (m : Machine) → jump_top m ≡ last_of m.memory.origins m.memory.destinations m.state.jumps
unfolding jump_top
jump_is m = refl

-- six words, one by one
pub six-words : (s : List ℕ) → length s ≡ 6 → get_or s 0 0 ∷ get_or s 1 0 ∷ get_or s 2 0 ∷ get_or s 3 0 ∷ get_or s 4 0 ∷ get_or s 5 0 ∷ [] ≡ s
six-words s h = sym (took s s 6 (omega arith) (take_all 6 s (omega arith)))

-- words that are stored at all places of a list are the list then
pub stored-whole : (v s : List ℕ) → length s ≡ length v → sets s 0 v ≡ v
stored-whole v s e = sets-eq v s 0 (omega arith) ∙ rw (drop_of_length-le s {i = 0 + length v} (omega arith)) (append-nil v)

-- all columns, stored one by one
pub columns_written : (s : List ℕ) (t q o n j f d : ℕ) (w : List ℕ) (e : ℕ) (h : List ℕ) → length s ≡ 37 → length h ≡ 6 →
    sets s 0 (t ∷ q % 4294967296 ∷ o ∷ n ∷ o % 2 ∷ o / 2 % 2 ∷ o / 4 % 2 ∷ o / 8 % 2 ∷ o / 16 % 2 ∷ o / 32 % 2 ∷ o / 64 % 2 ∷ j ∷ f ∷ d
    ∷ get_or w 15 0 ∷ get_or w 14 0 ∷ get_or w 13 0 ∷ get_or w 12 0 ∷ get_or w 11 0 ∷ get_or w 10 0 ∷ get_or w 9 0 ∷ get_or w 8 0
    ∷ get_or w 7 0 ∷ get_or w 6 0 ∷ get_or w 5 0 ∷ get_or w 4 0 ∷ get_or w 3 0 ∷ get_or w 2 0 ∷ get_or w 1 0 ∷ get_or w 0 0
    ∷ e ∷ get_or h 0 0 ∷ get_or h 1 0 ∷ get_or h 2 0 ∷ get_or h 3 0 ∷ get_or h 4 0 ∷ get_or h 5 0 ∷ [])
    ≡ (t ∷ q % 2 ^ 32 ∷ o ∷ n ∷ []) ++ instruction_bits o ++ (j ∷ f ∷ d ∷ []) ++ stack_words w ++ (e ∷ h)
unfolding instruction_bits stack_words
columns_written s t q o n j f d w e h k l =
    stored-whole _ s k
    ∙ ap (λ (x : List ℕ). (t ∷ q % 2 ^ 32 ∷ o ∷ n ∷ []) ++ instruction_bits o ++ (j ∷ f ∷ d ∷ []) ++ stack_words w ++ (e ∷ x)) (six-words h l)

-- they are those of the machine
pub row_is : (m : Machine) {i n f d : ℕ} {w h r : List ℕ} → i ≡ cond (ltb m.state.pointer (length m.code.opcodes)) (get_or m.code.opcodes m.state.pointer 0) 8 →
    n ≡ cond (ltb m.state.pointer (length m.code.opcodes)) (cond (eqb (size_of (get_or m.code.opcodes m.state.pointer 0)) 2) (get_or m.code.arguments m.state.pointer 0) (next_opcode m.code.opcodes m.state.pointer)) 0 →
    f ∷ d ∷ [] ≡ jump_words (jump_top m) → w ≡ top m → h ≡ helpers_at m →
    r ≡ (m.state.clock ∷ m.state.pointer % 2 ^ 32 ∷ i ∷ n ∷ []) ++ instruction_bits i ++ (m.state.jumps ∷ f ∷ d ∷ []) ++ stack_words w ++ (m.state.depth ∷ h) →
    r ≡ row_of m
unfolding row_of current_instruction next_instruction_or_argument
row_is m a b j g i q =
    q
    ∙ (λ z. (m.state.clock ∷ m.state.pointer % 2 ^ 32 ∷ a z ∷ b z ∷ []) ++ instruction_bits (a z) ++ (m.state.jumps ∷ j z) ++ stack_words (g z) ++ (m.state.depth ∷ i z))

-- ---- of all that show the same

module _ (m : Machine) (s : VMState) (public secret output : List ℕ) (e : shown_in s ≡ shown_in m.state) where
  row_helpers : HelpersAlike m (row_alike m s public secret output)
  row_helpers =
      record {
        top = λ i. top_of m.memory.op_stack (e i).depth;
        pointer = ap (λ (z : Shown). z.pointer) e;
        opcodes = refl;
        arguments = refl;
        digests = λ i. drop (5 * (e i).digests) m.code.digests;
        cells = λ i. cells (e i).cells m.memory.addresses m.memory.values;
      }

  -- the columns but for the helper variables are read off what is the same
  pub row_alike_is : {r h : List ℕ} → r ≡ row_of m → h ≡ helpers_at m → HelpersAre m h → r ≡ row_of (row_alike m s public secret output)
  unfolding row_of current_instruction next_instruction_or_argument jump_top
  row_alike_is q a k =
      let o = m.code.opcodes in
      let ci : Shown → ℕ = λ z. cond (ltb z.pointer (length o)) (get_or o z.pointer 0) 8 in
      let ni : Shown → ℕ = λ z. cond (ltb z.pointer (length o)) (cond (eqb (size_of (get_or o z.pointer 0)) 2) (get_or m.code.arguments z.pointer 0) (next_opcode o z.pointer)) 0 in
      let w : Shown → List ℕ → List ℕ = λ z h. (z.clock ∷ z.pointer % 2 ^ 32 ∷ ci z ∷ ni z ∷ []) ++ instruction_bits (ci z) ++ (z.jumps ∷ jump_words (last_of m.memory.origins m.memory.destinations z.jumps)) ++ stack_words (top_of m.memory.op_stack z.depth) ++ (z.depth ∷ h) in
      q ∙ ap (w (shown_in m.state)) (sym a ∙ k.is _ row_helpers) ∙ (λ i. w (sym e i) (helpers_at (row_alike m s public secret output)))

-- ---- a row that is copied

pub row_put : (t row copied : List ℕ) (at k : ℕ) → length row ≡ 37 → copied ≡ row → k ≡ 37 → RowPut true t at row (put_mid at k t copied) (at + 37)
row_put t row copied at k h e q = record { place = omega arith; table = rw e (put_logged t row at k (omega arith)) }

-- where u says whether rows are asked for
module _ {u : Bool} (h : u ≡ true) where
  pub put-asked : {t row t2 : List ℕ} {at next : ℕ} → RowPut true t at row t2 next → RowPut u t at row t2 next
  put-asked {t} {row} {t2} {at} {next} k = subst (λ (u : Bool). RowPut u t at row t2 next) (sym h) k

module _ {u : Bool} (h : u ≡ false) where
  pub put_unasked : (t row : List ℕ) (at : ℕ) → RowPut u t at row t at
  put_unasked t row at = rw h (record { place = omega arith; table = logged_none t at })

  pub taken_unasked : {m : Machine} {row : List ℕ} → RowTaken u m row
  taken_unasked = record { asked = λ e. absurd (true≢false (sym e ∙ h)); alike = λ e. absurd (true≢false (sym e ∙ h)) }

-- ---- what a sound machine gives

pub sound-rowable : (m : Machine) → Sound m → Rowable m
sound-rowable m s = record { helpable = sound-helpable m s; origins = s.origins.used; destinations = s.destinations.used }
