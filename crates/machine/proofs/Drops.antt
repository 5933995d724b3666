-- Only skiz drops a word: on 0, where no slot is next, with 11; and then the depth is 17 or more, so place A accepts what a refused skiz
-- leaves, as it accepts what a step and a run leave. Assumes nothing.
use mathlib.Core.Path.{◌≡◌, refl, subst}
use mathlib.Core.Bool.{Bool, true, false}
use Prim.Native.Nat.{ℕ, ◌+◌, ◌^◌, ◌≤◌, ◌<◌}
use native.Mathlib.Omega.{arith}
use borrow.Author.Tests.{eqb-true, ltb-false}
use lib.ListN.{length}
use lib.Dec.{eqb, ltb}
use Rattle.choices.specs.Choice.{cond}
use Rattle.machine.specs.Refusal.{Refusal, instruction_pointer_overflow, op_stack_too_shallow}
use Rattle.machine.specs.Instruction.{Row, table, Decoded, known, unknown, decode, grown_by, shrunk_by}
use Rattle.machine.specs.Instruction as I
use Rattle.machine.specs.Machine.{Machine, JumpTop, empty, entry, jump_top, top, st, public_left, secret_left, digests_left}
use Rattle.machine.specs.Effect.{Effect, Decision, acts, refuses, drops}
use Rattle.machine.specs.Stack.{push_of, pop_of, divine_of, pick_of, place_of, dup_of, swap_of}
use Rattle.machine.specs.Control.{halt_of, nop_of, skiz_of, call_of, return_of, recurse_of, recurse_or_return_of, assert_of}
use Rattle.machine.specs.Memory.{read_mem_of, write_mem_of}
use Rattle.machine.specs.Hashing.{hash_of, assert_from, assert_vector_of, sponge_init_of, sponge_absorb_of, sponge_absorb_mem_of, sponge_squeeze_of}
use Rattle.machine.specs.Arithmetic.{add_of, addi_of, mul_of, invert_of, eq_of, xx_add_of, xx_mul_of, x_invert_of, xb_mul_of, zero_x, xst}
use Rattle.machine.specs.Bitwise.{split_of, lt_of, and_of, xor_of, log2_floor_of, pow_of, div_mod_of, pop_count_of}
use Rattle.machine.specs.InputOutput.{read_io_of, write_io_of}
use Rattle.machine.specs.ManyInOne.{merkle_step_of, merkle_step_mem_of, xx_dot_step_of, xb_dot_step_of}
use Rattle.machine.specs.Decide.{opcode_of, argument_of, effect_of, decide_in, decide_of}
use Rattle.machine.specs.Apply.{took, lost, dropped}
use Rattle.machine.specs.PlaceA.{machine_a}
use Rattle.machine.specs.Step.{outcome_by}
use Rattle.machine.specs.Path.{Space}
use Rattle.machine.specs.FeeTable.{Fees}
use Rattle.machine.specs.Run.{call_by}
use Rattle.machine.specs.Sound.{Sound}
use Rattle.machine.proofs.Rows.{Each, gathered, each-decode}
use Rattle.machine.proofs.PlaceA.{machine-sound, machine-accepted}
use Rattle.machine.proofs.Facts.{facts}
use Rattle.machine.proofs.Step.{step-sound, step-lost}
use Rattle.machine.proofs.Path.{lost-sound}
use Rattle.machine.proofs.Run.{call-sound}

-- P of the refusal where a decision drops
pub data Drops (P : Refusal → Type 0) : Decision → Type 0 where
  acting : {e : Effect} → Drops P (acts e)
  refusing : {r : Refusal} → Drops P (refuses r)
  dropping : {r : Refusal} → P r → Drops P (drops r)

dropped_by : {P : Refusal → Type 0} {r : Refusal} → Drops P (drops r) → P r
dropped_by (dropping h) = h

drops-map : {P Q : Refusal → Type 0} {d : Decision} → ((r : Refusal) → P r → Q r) → Drops P d → Drops Q d
drops-map f acting = acting
drops-map f refusing = refusing
drops-map f (dropping {r} h) = dropping (f r h)

module _ {P : Refusal → Type 0} where
  either : {a b : Decision} (t : Bool) → Drops P a → Drops P b → Drops P (cond t a b)
  either true h k = h
  either false h k = k

  of_return : (j : JumpTop) → Drops P (return_of j)
  unfolding return_of
  of_return empty = refusing
  of_return (entry o d) = acting

  of_recurse : (j : JumpTop) → Drops P (recurse_of j)
  unfolding recurse_of
  of_recurse empty = refusing
  of_recurse (entry o d) = acting

-- when skiz drops, and with what
record NothingNext (m : Machine) (r : Refusal) : Type 0 where
  zero : st (top m) 0 ≡ 0
  last : length m.code.opcodes ≤ m.state.pointer + 1
  number : r ≡ instruction_pointer_overflow

of_skiz : (m : Machine) → Drops (NothingNext m) (skiz_of m.code.opcodes m.state.pointer (top m))
unfolding skiz_of
of_skiz m = go _ _ (eqb (st (top m) 0) 0) (ltb (m.state.pointer + 1) (length m.code.opcodes)) refl refl
  where
    go : (a b : Effect) (t u : Bool) → eqb (st (top m) 0) 0 ≡ t → ltb (m.state.pointer + 1) (length m.code.opcodes) ≡ u →
        Drops (NothingNext m) (cond t (cond u (acts a) (drops instruction_pointer_overflow)) (acts b))
    go a b true true e k = acting
    go a b true false e k = dropping (record { zero = eqb-true (st (top m) 0) 0 e; last = ltb-false (m.state.pointer + 1) (length m.code.opcodes) k; number = refl })
    go a b false u e k = acting

-- a row's instruction drops only if it is skiz, which takes one word more than it puts on
record SkizDrops (m : Machine) (row : Row) (n : ℕ) (r : Refusal) : Type 0 where
  is_skiz : row.instruction ≡ I.skiz
  shrinks : 1 + grown_by row.change n ≤ shrunk_by row.change n
  next : NothingNext m r

abbrev RowDrops : Machine → Row → Type 0
RowDrops m row = (n : ℕ) → Drops (SkizDrops m row n) (effect_of row.instruction n m)

rows : (m : Machine) → Each (RowDrops m) table
unfolding table effect_of push_of pop_of divine_of pick_of place_of dup_of swap_of halt_of nop_of skiz_of call_of recurse_or_return_of assert_of read_mem_of write_mem_of hash_of assert_from assert_vector_of sponge_init_of sponge_absorb_of sponge_absorb_mem_of sponge_squeeze_of add_of addi_of mul_of invert_of eq_of xx_add_of xx_mul_of x_invert_of xb_mul_of split_of lt_of and_of xor_of log2_floor_of pow_of div_mod_of pop_count_of read_io_of write_io_of merkle_step_of merkle_step_mem_of xx_dot_step_of xb_dot_step_of
rows m =
    gathered (RowDrops m) table
    (λ n. acting)
    (λ n. acting)
    (λ n. either (ltb (length (secret_left m)) n) refusing acting)
    (λ n. acting)
    (λ n. acting)
    (λ n. acting)
    (λ n. acting)
    (λ n. acting)
    (λ n. acting)
    (λ n. drops-map (λ q h. record { is_skiz = refl; shrinks = omega arith; next = h }) (of_skiz m))
    (λ n. acting)
    (λ n. of_return (jump_top m))
    (λ n. of_recurse (jump_top m))
    (λ n. either (eqb (st (top m) 5) (st (top m) 6)) (of_return (jump_top m)) (of_recurse (jump_top m)))
    (λ n. either (eqb (st (top m) 0) 1) acting refusing)
    (λ n. acting)
    (λ n. acting)
    (λ n. acting)
    (λ n. either (eqb (st (top m) 0) (st (top m) 5)) (either (eqb (st (top m) 1) (st (top m) 6)) (either (eqb (st (top m) 2) (st (top m) 7)) (either (eqb (st (top m) 3) (st (top m) 8)) (either (eqb (st (top m) 4) (st (top m) 9)) acting refusing) refusing) refusing) refusing) refusing)
    (λ n. acting)
    (λ n. either m.state.sponge.set acting refusing)
    (λ n. either m.state.sponge.set acting refusing)
    (λ n. either m.state.sponge.set acting refusing)
    (λ n. acting)
    (λ n. acting)
    (λ n. acting)
    (λ n. either (eqb (st (top m) 0) 0) refusing acting)
    (λ n. acting)
    (λ n. acting)
    (λ n. either (ltb (st (top m) 0) (2 ^ 32)) (either (ltb (st (top m) 1) (2 ^ 32)) acting refusing) refusing)
    (λ n. either (ltb (st (top m) 0) (2 ^ 32)) (either (ltb (st (top m) 1) (2 ^ 32)) acting refusing) refusing)
    (λ n. either (ltb (st (top m) 0) (2 ^ 32)) (either (ltb (st (top m) 1) (2 ^ 32)) acting refusing) refusing)
    (λ n. either (ltb (st (top m) 0) (2 ^ 32)) (either (eqb (st (top m) 0) 0) refusing acting) refusing)
    (λ n. either (ltb (st (top m) 1) (2 ^ 32)) acting refusing)
    (λ n. either (ltb (st (top m) 0) (2 ^ 32)) (either (ltb (st (top m) 1) (2 ^ 32)) (either (eqb (st (top m) 1) 0) refusing acting) refusing) refusing)
    (λ n. either (ltb (st (top m) 0) (2 ^ 32)) acting refusing)
    (λ n. acting)
    (λ n. acting)
    (λ n. either (zero_x (xst (top m) 0)) refusing acting)
    (λ n. acting)
    (λ n. either (ltb (length (public_left m)) n) refusing acting)
    (λ n. acting)
    (λ n. either (ltb (st (top m) 5) (2 ^ 32)) (either (ltb (length (digests_left m)) 5) refusing acting) refusing)
    (λ n. either (ltb (st (top m) 5) (2 ^ 32)) acting refusing)
    (λ n. acting)
    (λ n. acting)

-- what is known where a word is dropped and r is given
pub record AtSkiz (m : Machine) (r : Refusal) : Type 0 where
  pub row : Row
  pub decodes : decode (opcode_of m) ≡ known row
  pub is_skiz : row.instruction ≡ I.skiz
  pub deep : 17 ≤ m.state.depth
  -- ST 0 is 0, and no slot is next: 11
  pub zero : st (top m) 0 ≡ 0
  pub last : length m.code.opcodes ≤ m.state.pointer + 1
  pub number : r ≡ instruction_pointer_overflow

-- at the depths that 12 lets pass
deep_enough : (m : Machine) (row : Row) (n : ℕ) (t : Bool) → ltb (m.state.depth + grown_by row.change n) (16 + shrunk_by row.change n) ≡ t → (x : Decision) →
    Drops (SkizDrops m row n) x → decode (opcode_of m) ≡ known row → Drops (AtSkiz m) (cond t (refuses op_stack_too_shallow) x)
deep_enough m row n true e x h d = refusing
deep_enough m row n false e x h d = drops-map at h
  where
    at : (r : Refusal) → SkizDrops m row n r → AtSkiz m r
    at r k = record {
      row = row;
      decodes = d;
      is_skiz = k.is_skiz;
      deep = omega (arith, ltb-false (m.state.depth + grown_by row.change n) (16 + shrunk_by row.change n) e, k.shrinks);
      zero = k.next.zero;
      last = k.next.last;
      number = k.next.number;
    }

skiz_in : (m : Machine) (d : Decoded) → decode (opcode_of m) ≡ d → Drops (AtSkiz m) (decide_in d (argument_of m) m)
skiz_in m unknown e = refusing
skiz_in m (known r) e =
    deep_enough m r (argument_of m) (ltb (m.state.depth + grown_by r.change (argument_of m)) (16 + shrunk_by r.change (argument_of m))) refl (effect_of r.instruction (argument_of m) m)
    (each-decode (RowDrops m) (opcode_of m) r (rows m) e (argument_of m)) e

only_skiz : (m : Machine) → Drops (AtSkiz m) (decide_of m)
unfolding decide_of
only_skiz m = either m.state.halted refusing (either (ltb m.state.pointer (length m.code.opcodes)) (skiz_in m (decode (opcode_of m)) refl) refusing)

drops-skiz : (m : Machine) (r : Refusal) → decide_of m ≡ drops r → AtSkiz m r
drops-skiz m r e = dropped_by (subst (Drops (AtSkiz m)) e (only_skiz m))

pub drops-deep : (m : Machine) (r : Refusal) → decide_of m ≡ drops r → 17 ≤ m.state.depth
drops-deep m r e = (drops-skiz m r e).deep

-- a refused step changes nothing, but that skiz drops its word where it gives 11
pub lost-at-skiz : (m : Machine) (r : Refusal) (x : Machine) → outcome_by decide_of m ≡ lost r x → AtSkiz m r × (dropped m ≡ x)
lost-at-skiz m r x e = let k = step-lost decide_of m r x e in (drops-skiz m r k.0, k.1)

-- ---- what a step and a run leave of what place A accepts, it accepts again. A sponge of sixteen words and a clock of 32 bits are what the
-- state's types say

module _ (m : Machine) (sixteen : length m.state.sponge.words ≡ 16) (clock : m.state.clock < 4294967296) (accepted : machine_a m ≡ 0) where
  sound : Sound m
  sound = machine-sound m sixteen clock accepted

  pub took-accepted : (x : Machine) → outcome_by decide_of m ≡ took x → machine_a x ≡ 0
  took-accepted x e = machine-accepted x (step-sound decide_of facts m x sound e)

  pub lost-accepted : (r : Refusal) (x : Machine) → outcome_by decide_of m ≡ lost r x → machine_a x ≡ 0
  lost-accepted r x e = machine-accepted x (lost-sound decide_of facts (λ m s r e. drops-deep m r e) m r x sound e)

  -- run, trace_execution and trace_rows, whatever is lent beside the machine
  pub call-accepted : (f : Fees) (s : Space) (n : ℕ) → machine_a (call_by decide_of f s n m).left ≡ 0
  call-accepted f s n = machine-accepted (call_by decide_of f s n m).left (call-sound decide_of facts (λ m s r e. drops-deep m r e) f s n m sound)
