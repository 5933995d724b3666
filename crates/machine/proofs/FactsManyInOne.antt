-- Merkle steps and dot-product steps: what holds of the effect that each acts. Assumes nothing.
use mathlib.Core.Path.{◌≡◌, refl, ap}
use mathlib.Core.Bool.{Bool, true, false}
use mathlib.Core.List.{List, [], ◌∷◌, ◌++◌, append-nil}
use Prim.Native.Nat.{ℕ, ◌+◌, ◌*◌, ◌/◌, ◌%◌, ◌≤◌, ◌<◌}
use native.Mathlib.Omega.{arith}
use borrow.Author.Tests.{ltb-false}
use lib.ListN.{length, take, length-append, length-drop}
use lib.Seq.{length-take-le}
use lib.Dec.{eqb, ltb}
use Rattle.field.specs.Base.{p}
use Rattle.field.specs.Extension.{mul_x, scale_x}
use Rattle.field.proofs.Ring.{below}
use Rattle.field.proofs.ExtensionRing.{add_x-words}
use Rattle.choices.specs.Choice.{cond}
use Rattle.machine.specs.Words.{Words, none, more}
use Rattle.machine.specs.Ram.{held}
use Rattle.machine.specs.Machine.{Machine, st, top, ram, digests_left}
use Rattle.machine.specs.Memory.{words_up}
use Rattle.machine.specs.Hashing.{last_state, from_top}
use Rattle.machine.specs.Arithmetic.{xst}
use Rattle.machine.specs.ManyInOne.{siblings, merkle_trace, parent, merkle_stepped, merkle_step_of, merkle_stepped_mem, merkle_step_mem_of, xheld, read_at, xx_dot_step_of, xb_dot_step_of}
use Rattle.machine.specs.Sound.{Sound, Honest, HonestJump}
use Rattle.machine.proofs.Words.{words_get_d, words_take, words-drop, words_append}
use Rattle.machine.proofs.RamLaws.{held_word}
use Rattle.machine.proofs.Seen.{sees, from-top-length, from-top-words, reversed-length, reversed-words, words_by_length, words_by_words, reads_by_honest}
use Rattle.machine.proofs.Acts.{Acts, acting, acts-unless, acts-u32}
use Rattle.machine.proofs.Does.{Weights, access_sizes, Does, onward_word, records}
use Rattle.machine.proofs.FactsArithmetic.{extension_words}
use Rattle.machine.proofs.FactsMemory.{reads_by_sizes}
use Rattle.machine.proofs.FactsHashing.{Traced, fixed-traced}

siblings-length : (k : ℕ) (a b : List ℕ) → length a ≡ 5 → length b ≡ 5 → length (siblings k a b) ≡ 10
unfolding siblings
siblings-length k a b h l = go (eqb (k % 2) 0)
  where
    go : (t : Bool) → length (cond t (a ++ b) (b ++ a)) ≡ 10
    go true = simp length-append (omega arith)
    go false = simp length-append (omega arith)

siblings-words : (k : ℕ) (a b : List ℕ) → Words a → Words b → Words (siblings k a b)
unfolding siblings
siblings-words k a b h l = go (eqb (k % 2) 0)
  where
    go : (t : Bool) → Words (cond t (a ++ b) (b ++ a))
    go true = words_append h l
    go false = words_append l h

module _ (per : Weights) (m : Machine) (s : Sound m) (here : m.state.pointer < length m.code.opcodes) where
  low : (i : ℕ) → st (top m) i < p
  low i = words_get_d _ (sees m s)

  half : st (top m) 5 / 2 < p
  half = omega (arith, low 5)

  merkle_traced : (sibling : List ℕ) → length sibling ≡ 5 → Words sibling → Traced (merkle_trace (top m) sibling)
  merkle_traced sibling h b =
      fixed-traced _
      (siblings-length (st (top m) 5) (from_top (top m) 0 5) sibling (from-top-length (top m) 0 5) h)
      (siblings-words (st (top m) 5) (from_top (top m) 0 5) sibling (from-top-words 0 5 (sees m s)) b)

  parent-words : (t : List ℕ) → Traced t → Words (parent (top m) t)
  parent-words t h = more half (reversed-words 5 (words-drop 80 h.words))

  merkle_stepped-does : (t : List ℕ) → Traced t → 5 ≤ length (digests_left m) → Does per m 0 0 (per.of_tip5 + (per.of_u32 + 0)) (merkle_stepped (top m) t)
  unfolding merkle_stepped
  merkle_stepped-does t h l = record {
    own = record {
      pops = omega arith;
      change = rw (reversed-length (last_state t) 5);
      words = parent-words t h;
      calls = Honest.traces h.six (Honest.u32s Honest.none);
      sizes = refl;
    };
    rest = record {
      next = onward_word m s here;
      jump = HonestJump.staying;
      publics = omega (arith, s.publics);
      secrets = omega (arith, s.secrets);
      digests = omega (arith, s.digests, l, length-drop (5 * m.state.digests) m.code.digests);
      sponge = s.sponge;
    };
  }

  pub merkle_step-does : Acts (Does per m 0 0 (per.of_tip5 + (per.of_u32 + 0))) (merkle_step_of (digests_left m) (top m))
  unfolding merkle_step_of
  merkle_step-does =
      acts-u32 (st (top m) 5)
      (λ _. acts-unless (ltb (length (digests_left m)) 5) _ (λ t. acting (enough (ltb-false (length (digests_left m)) 5 t))))
    where
      enough : 5 ≤ length (digests_left m) → Does per m 0 0 (per.of_tip5 + (per.of_u32 + 0)) (merkle_stepped (top m) (merkle_trace (top m) (take 5 (digests_left m))))
      enough l =
          merkle_stepped-does _
          (merkle_traced (take 5 (digests_left m)) (length-take-le 5 (digests_left m) l) (words_take 5 (words-drop (5 * m.state.digests) s.code.digests))) l

  merkle_stepped-mem-does : (t : List ℕ) → Traced t → Does per m 0 0 (per.of_tip5 + (per.of_u32 + (per.of_ram * 5 + 0))) (merkle_stepped_mem (ram m) (top m) t)
  unfolding merkle_stepped_mem
  merkle_stepped-mem-does t h =
      records per m s here 8 0 0
      (more (below _) (more (low 6) (parent-words t h)))
      (Honest.traces h.six (Honest.u32s (rw append-nil at (reads_by_honest 1 (ram m) s.cells (st (top m) 7) 5 (low 7) Honest.none))))
      (ap (λ (z : ℕ). per.of_tip5 + (per.of_u32 + z)) (rw append-nil at (reads_by_sizes per 1 (ram m) (st (top m) 7) 5 [])))
      (omega arith)
      (rw (reversed-length (last_state t) 5))

  pub merkle_step-mem-does : Acts (Does per m 0 0 (per.of_tip5 + (per.of_u32 + (per.of_ram * 5 + 0)))) (merkle_step_mem_of (ram m) (top m))
  unfolding merkle_step_mem_of
  merkle_step-mem-does =
      acts-u32 (st (top m) 5)
      (λ _. acting
      (merkle_stepped-mem-does _
      (merkle_traced (words_up (ram m) (st (top m) 7) 5) (words_by_length 1 (ram m) (st (top m) 7) 5) (words_by_words 1 (ram m) s.cells (st (top m) 7) 5))))

  -- ---- dot products

  reads_at : (a : ℕ) → a < p → {cs : _} → Honest (ram m) cs → Honest (ram m) (read_at (ram m) a ∷ cs)
  reads_at a h k = Honest.reads h (held_word (ram m) a s.cells.values) refl k

  pub xx_dot_step-does : Acts (Does per m 0 0 (access_sizes per 6)) (xx_dot_step_of (ram m) (top m))
  unfolding xx_dot_step_of
  xx_dot_step-does =
      acting
      (records per m s here 5 0 0
      (words_append (extension_words _ (add_x-words (xst (top m) 2) (mul_x (xheld (ram m) (st (top m) 0)) (xheld (ram m) (st (top m) 1))))) (more (below _) (more (below _) none)))
      (reads_at _ (low 0) (reads_at _ (low 1) (reads_at _ (below _) (reads_at _ (below _) (reads_at _ (below _) (reads_at _ (below _) Honest.none))))))
      refl (omega arith) refl)

  pub xb_dot_step-does : Acts (Does per m 0 0 (access_sizes per 4)) (xb_dot_step_of (ram m) (top m))
  unfolding xb_dot_step_of
  xb_dot_step-does =
      acting
      (records per m s here 5 0 0
      (words_append (extension_words _ (add_x-words (xst (top m) 2) (scale_x (held (ram m) (st (top m) 0)) (xheld (ram m) (st (top m) 1))))) (more (below _) (more (below _) none)))
      (reads_at _ (low 0) (reads_at _ (low 1) (reads_at _ (below _) (reads_at _ (below _) Honest.none))))
      refl (omega arith) refl)
