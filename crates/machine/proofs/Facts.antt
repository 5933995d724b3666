-- What demand 3 and 'a step leaves what place A accepts' need of the effect that the real instruction set acts: over the rows of the table. Assumes nothing.
use mathlib.Core.Path.{◌≡◌, refl, subst}
use Prim.Native.Nat.{ℕ, ◌+◌, ◌≤◌, ◌<◌}
use mathlib.Core.Bool.{true}
use mathlib.Core.List.{List, [], ◌∷◌}
use native.Mathlib.Omega.{arith}
use borrow.Author.Tests.{ltb-true, ltb-false}
use lib.ListN.{length}
use lib.Dec.{ltb}
use Rattle.field.specs.Base.{p}
use Rattle.machine.specs.Instruction.{Row, table, Decoded, known, unknown, decode, grown_by, shrunk_by, argument_fault}
use Rattle.machine.specs.Machine.{Machine}
use Rattle.machine.specs.Effect.{Call, reset, tip5, u32, ram_read, ram_write, Effect, Decision, acts}
use Rattle.machine.specs.Decide.{opcode_of, argument_of, effect_of, decide_in, decide_of}
use Rattle.machine.specs.PlaceA.{argument4}
use Rattle.machine.specs.Sound.{Sound, ram_calls, Facts}
use Rattle.machine.proofs.Words.{words_get_d}
use Rattle.machine.proofs.Rows.{Each, gathered, each-decode, words_allowed, place_allowed, argument-at}
use Rattle.machine.proofs.Acts.{Acts, acted, refusing, acts-map, acts-cond, acts-unless}
use Rattle.machine.proofs.Does.{Weights, weights, weighed, Does}
use Rattle.machine.proofs.Weighed.{own_size, all_small, row-few}
use Rattle.machine.proofs.FactsStack as S
use Rattle.machine.proofs.FactsControl as C
use Rattle.machine.proofs.FactsMemory as M
use Rattle.machine.proofs.FactsHashing as H
use Rattle.machine.proofs.FactsArithmetic as A
use Rattle.machine.proofs.FactsBitwise as B
use Rattle.machine.proofs.FactsManyInOne as J

-- the row's instruction, with an argument that it may have, does as the row says
abbrev RowDoes : Weights → Machine → Row → Type 0
RowDoes per m r =
    (n : ℕ) → argument_fault r.argument n ≡ 0 → n < p → Acts (Does per m (grown_by r.change n) (shrunk_by r.change n) (own_size per r n)) (effect_of r.instruction n m)

module _ (per : Weights) (m : Machine) (s : Sound m) (here : m.state.pointer < length m.code.opcodes) where
  counted : {g h b c : ℕ} {d : Decision} → b ≡ c → Acts (Does per m g h b) d → Acts (Does per m g h c) d
  counted {g} {h} {b} {c} {d} e k = subst (λ (z : ℕ). Acts (Does per m g h z) d) e k

  rows : Each (RowDoes per m) table
  unfolding table effect_of
  rows =
      gathered (RowDoes per m) table
      (λ n h l. counted (omega arith) (S.pop-does per m s here n (words_allowed n h)))
      (λ n h l. counted (omega arith) (S.push-does per m s here n l))
      (λ n h l. counted (omega arith) (S.divine-does per m s here n (words_allowed n h)))
      (λ n h l. counted (omega arith) (S.pick-does per m s here n (place_allowed n h)))
      (λ n h l. counted (omega arith) (S.place-does per m s here n (place_allowed n h)))
      (λ n h l. counted (omega arith) (S.dup-does per m s here n))
      (λ n h l. counted (omega arith) (S.swap-does per m s here n))
      (λ n h l. counted (omega arith) (C.halt-does per m s here))
      (λ n h l. counted (omega arith) (C.nop_does per m s here))
      (λ n h l. counted (omega arith) (C.skiz-does per m s here))
      (λ n h l. counted (omega arith) (C.call-does per m s here n l))
      (λ n h l. counted (omega arith) (C.return-does per m s here))
      (λ n h l. counted (omega arith) (C.recurse-does per m s here))
      (λ n h l. counted (omega arith) (C.recurse_or_return-does per m s here))
      (λ n h l. counted (omega arith) (C.assert-does per m s here))
      (λ n h l. counted (omega arith) (M.read-mem-does per m s here n (words_allowed n h)))
      (λ n h l. counted (omega arith) (M.write-mem-does per m s here n (words_allowed n h)))
      (λ n h l. counted (omega arith) (H.hash-does per m s here))
      (λ n h l. counted (omega arith) (H.assert_vector_does per m s here))
      (λ n h l. counted (omega arith) (H.sponge_init_does per m s here))
      (λ n h l. counted (omega arith) (H.sponge_absorb_does per m s here))
      (λ n h l. counted (omega arith) (H.sponge_absorb_mem-does per m s here))
      (λ n h l. counted (omega arith) (H.sponge_squeeze_does per m s here))
      (λ n h l. counted (omega arith) (A.add-does per m s here))
      (λ n h l. counted (omega arith) (A.addi-does per m s here n))
      (λ n h l. counted (omega arith) (A.mul-does per m s here))
      (λ n h l. counted (omega arith) (A.invert-does per m s here))
      (λ n h l. counted (omega arith) (A.eq-does per m s here))
      (λ n h l. counted (omega arith) (B.split-does per m s here))
      (λ n h l. counted (omega arith) (B.lt-does per m s here))
      (λ n h l. counted (omega arith) (B.and-does per m s here))
      (λ n h l. counted (omega arith) (B.xor-does per m s here))
      (λ n h l. counted (omega arith) (B.log_2_floor_does per m s here))
      (λ n h l. counted (omega arith) (B.pow-does per m s here))
      (λ n h l. counted (omega arith) (B.div-mod-does per m s here))
      (λ n h l. counted (omega arith) (B.pop-count-does per m s here))
      (λ n h l. counted (omega arith) (A.xx_add-does per m s here))
      (λ n h l. counted (omega arith) (A.xx_mul-does per m s here))
      (λ n h l. counted (omega arith) (A.x_invert-does per m s here))
      (λ n h l. counted (omega arith) (A.xb_mul-does per m s here))
      (λ n h l. counted (omega arith) (M.read_io_does per m s here n))
      (λ n h l. counted (omega arith) (M.write_io_does per m s here n (words_allowed n h)))
      (λ n h l. counted (omega arith) (J.merkle_step-does per m s here))
      (λ n h l. counted (omega arith) (J.merkle_step-mem-does per m s here))
      (λ n h l. counted (omega arith) (J.xx_dot_step-does per m s here))
      (λ n h l. counted (omega arith) (J.xb_dot_step-does per m s here))

-- an effect that is acted: its row, and that the row's instruction does it
pub record Done (per : Weights) (m : Machine) (e : Effect) : Type 0 where
  pub row : Row
  pub here : m.state.pointer < length m.code.opcodes
  pub is : decode (opcode_of m) ≡ known row
  pub allowed : argument_fault row.argument (argument_of m) ≡ 0
  pub deep : 16 + shrunk_by row.change (argument_of m) ≤ m.state.depth + grown_by row.change (argument_of m)
  pub does : Does per m (grown_by row.change (argument_of m)) (shrunk_by row.change (argument_of m)) (own_size per row (argument_of m)) e

module _ (per : Weights) (m : Machine) (s : Sound m) where
  fault_none : m.state.pointer < length m.code.opcodes → (r : Row) → decode (opcode_of m) ≡ known r → argument_fault r.argument (argument_of m) ≡ 0
  fault_none h r e = subst (λ (d : Decoded). argument4 d (argument_of m) ≡ 0) e (argument-at m.code.opcodes m.code.arguments _ m.state.pointer h s.code.allowed)

  decided_in : m.state.pointer < length m.code.opcodes → (d : Decoded) → decode (opcode_of m) ≡ d → Acts (Done per m) (decide_in d (argument_of m) m)
  decided_in h unknown e = refusing
  decided_in h (known r) e =
      acts-unless (ltb (m.state.depth + grown_by r.change (argument_of m)) (16 + shrunk_by r.change (argument_of m))) _
      (λ t. acts-map
      (λ x k. record { row = r; here = h; is = e; allowed = fault_none h r e; deep = ltb-false _ (16 + shrunk_by r.change (argument_of m)) t; does = k })
      (each-decode (RowDoes per m) (opcode_of m) r (rows per m s h) e (argument_of m) (fault_none h r e) (words_get_d m.state.pointer s.code.arguments)))

  decided : Acts (Done per m) (decide_of m)
  unfolding decide_of
  decided =
      acts-unless m.state.halted _
      (λ _. acts-cond (ltb m.state.pointer (length m.code.opcodes))
      (λ h. decided_in (ltb-true m.state.pointer (length m.code.opcodes) h) (decode (opcode_of m)) refl)
      (λ _. refusing))

pub done : (per : Weights) (m : Machine) → Sound m → (e : Effect) → decide_of m ≡ acts e → Done per m e
done per m s e h = acted (subst (Acts (Done per m)) h (decided per m s))

-- RAM accesses, counted; and words by which the stack grows or shrinks
abbrev pub per_access : Weights
per_access = weights 0 0 0 1 0

abbrev per_move : Weights
per_move = weights 0 0 0 0 1

few-accesses : all_small per_access 10 ≡ true
unfolding table
few-accesses = refl

few-moves : all_small per_move 10 ≡ true
unfolding table
few-moves = refl

accesses_are : (cs : List Call) → ram_calls cs ≡ weighed per_access cs
unfolding ram_calls
accesses_are [] = refl
accesses_are (reset ∷ cs) = omega (arith, accesses_are cs)
accesses_are (tip5 o t ∷ cs) = omega (arith, accesses_are cs)
accesses_are (u32 o l r ∷ cs) = omega (arith, accesses_are cs)
accesses_are (ram_read a v ∷ cs) = omega (arith, accesses_are cs)
accesses_are (ram_write a v ∷ cs) = omega (arith, accesses_are cs)

pub facts : (m : Machine) → Sound m → (e : Effect) → decide_of m ≡ acts e → Facts m e
facts m s e h = of (done per_access m s e h)
  where
    of : Done per_access m e → Facts m e
    of k =
        let a = row-few per_access 10 few-accesses (opcode_of m) (argument_of m) k.row k.is k.allowed in
        let b = row-few per_move 10 few-moves (opcode_of m) (argument_of m) k.row k.is k.allowed in
        record {
          pops = k.does.own.pops;
          deep = omega (arith, k.deep, k.does.own.change);
          grows = omega (arith, b, k.does.own.change);
          shrinks = omega (arith, b, k.does.own.change);
          words = k.does.own.words;
          next = k.does.rest.next;
          jump = k.does.rest.jump;
          calls = k.does.own.calls;
          accesses = omega (arith, a, accesses_are e.calls, k.does.own.sizes);
          publics = k.does.rest.publics;
          secrets = k.does.rest.secrets;
          digests = k.does.rest.digests;
          sponge = k.does.rest.sponge;
        }
