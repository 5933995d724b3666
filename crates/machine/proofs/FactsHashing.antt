-- The instructions that hash with Tip5, and assert_vector: what holds of the effect that each acts. Assumes nothing.
use mathlib.Core.Path.{◌≡◌, refl}
use mathlib.Core.List.{List, [], ◌∷◌, ◌++◌}
use Prim.Native.Nat.{ℕ, zero, suc, ◌+◌, ◌*◌, ◌<◌}
use native.Mathlib.Omega.{arith}
use lib.ListN.{length, replicate, length-append, length-drop, length-replicate}
use lib.Dec.{eqb, lit<}
use Rattle.field.specs.Base.{p}
use Rattle.field.proofs.Ring.{below}
use Rattle.tip5.specs.declared.sponge.Sponge.{Sponge}
use Rattle.tip5.specs.Permutation.{trace_of}
use Rattle.machine.specs.Words.{Words, none, more}
use Rattle.machine.specs.Machine.{Machine, st, top, ram}
use Rattle.machine.specs.Memory.{words_up, reads_up}
use Rattle.machine.specs.Hashing.{last_state, from_top, reversed, fixed_length, hashed, hash_of, sponged, sponge_init_of, overwritten, absorbed, sponge_absorb_of, absorbed_mem, sponge_absorb_mem_of, squeezed, sponge_squeeze_of, assert_from, assert_vector_of}
use Rattle.machine.specs.Apply.{sponge_after}
use Rattle.machine.specs.Sound.{SoundSponge, Sound, Honest}
use Rattle.machine.proofs.Words.{words_get_d, words-drop, words_append, words_zeros}
use Rattle.machine.proofs.Seen.{sees, from-top-length, from-top-words, reversed-length, reversed-words, words_by_length, words_by_words, reads_by_honest}
use Rattle.machine.proofs.Traces.{trace-length, trace-words}
use Rattle.machine.proofs.Acts.{Acts, acting, refusing, acts-cond, acts_sponge}
use Rattle.machine.proofs.Does.{Weights, Does, records, puts-does, sponges}
use Rattle.machine.proofs.FactsMemory.{reads_by_sizes}

-- a trace: six states of words
pub record Traced (t : List ℕ) : Type 0 where
  pub six : length t ≡ 96
  pub words : Words t

pub traced : (s : List ℕ) → length s ≡ 16 → Words s → Traced (trace_of s)
traced s h b = record { six = trace-length s h; words = trace-words s h b }

ones_words : (n : ℕ) → Words (replicate n 1)
ones_words zero = none
ones_words (suc n) = more (lit< tt) (ones_words n)

-- ten words and six ones
pub fixed-traced : (ten : List ℕ) → length ten ≡ 10 → Words ten → Traced (trace_of (fixed_length ten))
fixed-traced ten h b = traced (fixed_length ten) (simp length-append (omega arith)) (words_append b (ones_words 6))

-- ten words and a sponge's capacity
overwritten-traced : (s : Sponge) (ten : List ℕ) → SoundSponge s → length ten ≡ 10 → Words ten → Traced (trace_of (overwritten s ten))
overwritten-traced s ten k h b =
    traced (overwritten s ten) (simp (length-append, length-drop) (omega (arith, k.sixteen))) (words_append b (words-drop 10 k.words))

module _ (per : Weights) (m : Machine) (s : Sound m) (here : m.state.pointer < length m.code.opcodes) where
  sponged-sound : (t : List ℕ) → Traced t → SoundSponge (sponge_after m.state.sponge (sponged t))
  sponged-sound t h = record { sixteen = simp length-drop (omega (arith, h.six)); words = words-drop 80 h.words }

  hashed-does : (t : List ℕ) → Traced t → Does per m 0 5 (per.of_tip5 + 0) (hashed t)
  unfolding hashed
  hashed-does t h =
      records per m s here 10 0 5 (reversed-words 5 (words-drop 80 h.words)) (Honest.traces h.six Honest.none) refl (omega arith)
      (rw (reversed-length (last_state t) 5))

  pub hash-does : Acts (Does per m 0 5 (per.of_tip5 + 0)) (hash_of (top m))
  unfolding hash_of
  hash-does = acting (hashed-does _ (fixed-traced (from_top (top m) 0 10) (from-top-length (top m) 0 10) (from-top-words 0 10 (sees m s))))

  pub sponge_init_does : Acts (Does per m 0 0 (per.of_reset + 0)) sponge_init_of
  unfolding sponge_init_of
  sponge_init_does =
      acting
      (sponges per m s here 0 0 0 none (Honest.resets Honest.none) refl (record { sixteen = length-replicate {A = ℕ} 16 0; words = words_zeros 16 }) (omega arith) refl)

  absorbed-does : (t : List ℕ) → Traced t → Does per m 0 10 (per.of_tip5 + 0) (absorbed t)
  unfolding absorbed
  absorbed-does t h = sponges per m s here 10 0 10 none (Honest.traces h.six Honest.none) refl (sponged-sound t h) (omega arith) refl

  pub sponge_absorb_does : Acts (Does per m 0 10 (per.of_tip5 + 0)) (sponge_absorb_of m.state.sponge (top m))
  unfolding sponge_absorb_of
  sponge_absorb_does =
      acts_sponge m.state.sponge
      (acting
      (absorbed-does _ (overwritten-traced m.state.sponge (from_top (top m) 0 10) s.sponge (from-top-length (top m) 0 10) (from-top-words 0 10 (sees m s)))))

  absorbed-mem-change : (ten : List ℕ) (a : ℕ) → length (reversed ten 4 ++ (a ∷ [])) + 0 ≡ 5 + 0
  absorbed-mem-change ten a = simp (length-append, reversed-length)

  absorbed-mem-does : (ten : List ℕ) (a : ℕ) (t : List ℕ) → a < p → Words ten → Traced t → Does per m 0 0 (per.of_ram * 10 + (per.of_tip5 + 0)) (absorbed_mem ten (reads_up (ram m) a 10) a t)
  unfolding absorbed_mem
  absorbed-mem-does ten a t l w h =
      sponges per m s here 5 0 0
      (words_append (reversed-words 4 w) (more (below _) none))
      (reads_by_honest 1 (ram m) s.cells a 10 l (Honest.traces h.six Honest.none))
      (reads_by_sizes per 1 (ram m) a 10 _)
      (sponged-sound t h)
      (omega arith)
      (absorbed-mem-change ten _)

  pub sponge_absorb_mem-does : Acts (Does per m 0 0 (per.of_ram * 10 + (per.of_tip5 + 0))) (sponge_absorb_mem_of m.state.sponge (ram m) (top m))
  unfolding sponge_absorb_mem_of
  sponge_absorb_mem-does =
      acts_sponge m.state.sponge
      (acting
      (absorbed-mem-does (words_up (ram m) (st (top m) 0) 10) (st (top m) 0) _ (words_get_d 15 (sees m s))
      (words_by_words 1 (ram m) s.cells (st (top m) 0) 10)
      (overwritten-traced m.state.sponge (words_up (ram m) (st (top m) 0) 10) s.sponge (words_by_length 1 (ram m) (st (top m) 0) 10) (words_by_words 1 (ram m) s.cells (st (top m) 0) 10))))

  squeezed-does : (t : List ℕ) → Traced t → Does per m 10 0 (per.of_tip5 + 0) (squeezed m.state.sponge t)
  unfolding squeezed
  squeezed-does t h =
      sponges per m s here 0 10 0 (reversed-words 10 s.sponge.words) (Honest.traces h.six Honest.none) refl (sponged-sound t h) (omega arith)
      (rw (reversed-length m.state.sponge.words 10))

  pub sponge_squeeze_does : Acts (Does per m 10 0 (per.of_tip5 + 0)) (sponge_squeeze_of m.state.sponge)
  unfolding sponge_squeeze_of
  sponge_squeeze_does = acts_sponge m.state.sponge (acting (squeezed-does _ (traced m.state.sponge.words s.sponge.sixteen s.sponge.words)))

  assert-from-does : (w : List ℕ) (i n : ℕ) → Acts (Does per m 0 5 0) (assert_from w i n)
  unfolding assert_from
  assert-from-does w i zero = acting (puts-does per m s here 5 0 5 none (omega arith) refl)
  assert-from-does w i (suc n) = acts-cond (eqb (st w i) (st w (i + 5))) (λ _. assert-from-does w (i + 1) n) (λ _. refusing)

  pub assert_vector_does : Acts (Does per m 0 5 0) (assert_vector_of (top m))
  unfolding assert_vector_of
  assert_vector_does = assert-from-does (top m) 0 5
