-- What an instruction sees of a sound machine are words: the top sixteen, the words held in RAM, and what it gathers of both. Assumes nothing.
use mathlib.Core.Path.{◌≡◌, refl}
use mathlib.Core.List.{List, ◌++◌}
use Prim.Native.Nat.{ℕ, zero, suc, ◌+◌, ◌-◌, ◌<◌}
use lib.ListN.{length}
use Rattle.field.specs.Base.{p, add_p}
use Rattle.field.proofs.Ring.{below}
use Rattle.machine.specs.Words.{Words, none, more}
use Rattle.machine.specs.Ram.{Cells, stored}
use Rattle.machine.specs.Machine.{Machine, st, top}
use Rattle.machine.specs.Effect.{Call}
use Rattle.machine.specs.Memory.{words_by, reads_by, writes_up}
use Rattle.machine.specs.Hashing.{from_top, reversed}
use Rattle.machine.specs.Sound.{SoundCells, Sound, Honest}
use Rattle.machine.proofs.Words.{words_get_d}
use Rattle.machine.proofs.RamLaws.{held_word}
use Rattle.machine.proofs.OpStack.{top-length, top-words}

-- ---- op stack

pub sees_sixteen : (m : Machine) → Sound m → length (top m) ≡ 16
sees_sixteen m s = top-length m.memory.op_stack m.state.depth s.deep s.op_stack.used

pub sees : (m : Machine) → Sound m → Words (top m)
sees m s = top-words m.state.depth s.op_stack.words

pub from-top-length : (w : List ℕ) (i n : ℕ) → length (from_top w i n) ≡ n
unfolding from_top
from-top-length w i zero = refl
from-top-length w i (suc n) = rw (from-top-length w (i + 1) n)

pub from-top-words : {w : List ℕ} (i n : ℕ) → Words w → Words (from_top w i n)
unfolding from_top
from-top-words i zero b = none
from-top-words i (suc n) b = more (words_get_d (15 - i) b) (from-top-words (i + 1) n b)

pub reversed-length : (s : List ℕ) (n : ℕ) → length (reversed s n) ≡ n
unfolding reversed
reversed-length s zero = refl
reversed-length s (suc n) = rw (reversed-length s n)

pub reversed-words : {s : List ℕ} (n : ℕ) → Words s → Words (reversed s n)
unfolding reversed
reversed-words zero b = none
reversed-words (suc n) b = more (words_get_d n b) (reversed-words n b)

-- ---- RAM

module _ (d : ℕ) (c : Cells) (s : SoundCells c) where
  pub words_by_words : (a n : ℕ) → Words (words_by d c a n)
  unfolding words_by
  words_by_words a zero = none
  words_by_words a (suc n) = more (held_word c a s.values) (words_by_words (add_p a d) n)

  pub reads_by_honest : {cs : List Call} (a n : ℕ) → a < p → Honest c cs → Honest c (reads_by d c a n ++ cs)
  unfolding reads_by
  reads_by_honest a zero h k = k
  reads_by_honest a (suc n) h k = Honest.reads h (held_word c a s.values) refl (reads_by_honest (add_p a d) n (below _) k)

pub words_by_length : (d : ℕ) (c : Cells) (a n : ℕ) → length (words_by d c a n) ≡ n
unfolding words_by
words_by_length d c a zero = refl
words_by_length d c a (suc n) = rw (words_by_length d c (add_p a d) n)

pub writes_up_honest : {w : List ℕ} (c : Cells) (i a n : ℕ) → Words w → a < p → Honest c (writes_up w i a n)
unfolding writes_up
writes_up_honest c i a zero b h = Honest.none
writes_up_honest {w} c i a (suc n) b h =
    Honest.writes h (words_get_d (15 - i) b) (writes_up_honest (stored c a (st w i)) (i + 1) (add_p a 1) n b (below _))
