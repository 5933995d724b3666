-- The instructions that move words of the op stack: what holds of the effect that each acts. Assumes nothing.
use mathlib.Core.Path.{◌≡◌, refl}
use mathlib.Core.List.{List}
use Prim.Native.Nat.{ℕ, ◌-◌, ◌≤◌, ◌<◌}
use native.Mathlib.Omega.{arith}
use borrow.Author.Tests.{ltb-false}
use lib.ListN.{length, length-append, length-take, length-drop, length-set}
use lib.Seq.{length-take-le}
use lib.Dec.{ltb}
use Rattle.field.specs.Base.{p}
use Rattle.machine.specs.Words.{Words, none, more}
use Rattle.machine.specs.Machine.{Machine, top, secret_left}
use Rattle.machine.specs.Stack.{push_of, pop_of, divined, divine_of, picked, pick_of, placed, place_of, dup_of, swapped, swap_of}
use Rattle.machine.specs.Sound.{Sound, Honest, HonestJump}
use Rattle.machine.proofs.Words.{words_get_d, words-set, words_take, words-drop, words_append}
use Rattle.machine.proofs.Seen.{sees_sixteen, sees}
use Rattle.machine.proofs.Acts.{Acts, acting, acts-unless}
use Rattle.machine.proofs.Does.{Weights, Does, onward_word, puts-does}

-- ---- sixteen words rearranged are sixteen words

picked-length : (w : List ℕ) (i : ℕ) → length w ≡ 16 → i ≤ 15 → length (picked w i) ≡ 16
unfolding picked
picked-length w i h l = simp (length-append, length-take, length-drop) (omega arith)

picked_words : (w : List ℕ) (i : ℕ) → Words w → Words (picked w i)
unfolding picked
picked_words w i b = words_append (words_append (words_take (15 - i) b) (words-drop (16 - i) b)) (more (words_get_d (15 - i) b) none)

placed-length : (w : List ℕ) (i : ℕ) → length w ≡ 16 → i ≤ 15 → length (placed w i) ≡ 16
unfolding placed
placed-length w i h l = simp (length-append, length-take, length-drop) (omega arith)

placed-words : (w : List ℕ) (i : ℕ) → Words w → Words (placed w i)
unfolding placed
placed-words w i b = words_append (words_take (15 - i) b) (more (words_get_d 15 b) (words_take i (words-drop (15 - i) b)))

swapped-length : (w : List ℕ) (i : ℕ) → length w ≡ 16 → length (swapped w i) ≡ 16
unfolding swapped
swapped-length w i h = simp length-set h

swapped-words : (w : List ℕ) (i : ℕ) → Words w → Words (swapped w i)
unfolding swapped
swapped-words w i b = words-set (15 - i) _ (words_get_d 15 b) (words-set 15 _ (words_get_d (15 - i) b) b)

module _ (per : Weights) (m : Machine) (s : Sound m) (here : m.state.pointer < length m.code.opcodes) where
  pub push-does : (n : ℕ) → n < p → Acts (Does per m 1 0 0) (push_of n)
  unfolding push_of
  push-does n h = acting (puts-does per m s here 0 1 0 (more h none) (omega arith) refl)

  pub pop-does : (n : ℕ) → n ≤ 5 → Acts (Does per m 0 n 0) (pop_of n)
  unfolding pop_of
  pop-does n h = acting (puts-does per m s here n 0 n none (omega arith) (omega arith))

  divined-does : (n : ℕ) → n ≤ 5 → n ≤ length (secret_left m) → Does per m n 0 0 (divined n (secret_left m))
  divined-does n h l = record {
    own = record {
      pops = omega arith;
      change = rw (length-take-le n (secret_left m) l) (omega arith);
      words = words_take n (words-drop m.state.secrets s.code.secret);
      calls = Honest.none;
      sizes = refl;
    };
    rest = record {
      next = onward_word m s here;
      jump = HonestJump.staying;
      publics = omega (arith, s.publics);
      secrets = omega (arith, s.secrets, l, length-drop m.state.secrets m.code.secret);
      digests = omega (arith, s.digests);
      sponge = s.sponge;
    };
  }

  pub divine-does : (n : ℕ) → n ≤ 5 → Acts (Does per m n 0 0) (divine_of n (secret_left m))
  unfolding divine_of
  divine-does n h = acts-unless (ltb (length (secret_left m)) n) _ (λ t. acting (divined-does n h (ltb-false (length (secret_left m)) n t)))

  pub pick-does : (i : ℕ) → i ≤ 15 → Acts (Does per m 0 0 0) (pick_of (top m) i)
  unfolding pick_of
  pick-does i h = acting (puts-does per m s here 16 0 0 (picked_words (top m) i (sees m s)) (omega arith) (rw (picked-length (top m) i (sees_sixteen m s) h)))

  pub place-does : (i : ℕ) → i ≤ 15 → Acts (Does per m 0 0 0) (place_of (top m) i)
  unfolding place_of
  place-does i h = acting (puts-does per m s here 16 0 0 (placed-words (top m) i (sees m s)) (omega arith) (rw (placed-length (top m) i (sees_sixteen m s) h)))

  pub dup-does : (i : ℕ) → Acts (Does per m 1 0 0) (dup_of (top m) i)
  unfolding dup_of
  dup-does i = acting (puts-does per m s here 0 1 0 (more (words_get_d (15 - i) (sees m s)) none) (omega arith) refl)

  pub swap-does : (i : ℕ) → Acts (Does per m 0 0 0) (swap_of (top m) i)
  unfolding swap_of
  swap-does i = acting (puts-does per m s here 16 0 0 (swapped-words (top m) i (sees m s)) (omega arith) (rw (swapped-length (top m) i (sees_sixteen m s))))
