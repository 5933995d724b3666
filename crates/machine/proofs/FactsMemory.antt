-- read_mem, write_mem, read_io and write_io: what holds of the effect that each acts. Assumes nothing.
use mathlib.Core.Path.{◌≡◌, refl, ◌∙◌}
use mathlib.Core.List.{List, [], ◌∷◌, ◌++◌, append-nil}
use Prim.Native.Nat.{ℕ, zero, suc, ◌+◌, ◌*◌, ◌≤◌, ◌<◌}
use native.Mathlib.Nat.{add-zero}
use native.Mathlib.Omega.{arith}
use borrow.Author.Tests.{ltb-false}
use lib.ListN.{length, length-append, length-drop}
use lib.Seq.{length-take-le}
use lib.Dec.{ltb}
use Rattle.field.specs.Base.{add_p}
use Rattle.field.proofs.Ring.{below}
use Rattle.machine.specs.Words.{none, more}
use Rattle.machine.specs.Ram.{Cells}
use Rattle.machine.specs.Machine.{Machine, st, top, ram, public_left}
use Rattle.machine.specs.Effect.{Call}
use Rattle.machine.specs.Memory.{words_by, reads_by, down, writes_up, read_mem_of, write_mem_of}
use Rattle.machine.specs.InputOutput.{taken, read_io_of, write_io_of}
use Rattle.machine.specs.Sound.{Sound, Honest, HonestJump}
use Rattle.machine.proofs.Words.{words_get_d, words_take, words-drop, words_append}
use Rattle.machine.proofs.Seen.{sees, words_by_words, words_by_length, reads_by_honest, writes_up_honest}
use Rattle.machine.proofs.Acts.{Acts, acting, acts-unless}
use Rattle.machine.proofs.Does.{Weights, weighed, Does, onward_word, records, puts-does}

pub reads_by_sizes : (per : Weights) (d : ℕ) (c : Cells) (a n : ℕ) (cs : List Call) → weighed per (reads_by d c a n ++ cs) ≡ per.of_ram * n + weighed per cs
unfolding reads_by
reads_by_sizes per d c a zero cs = omega arith
reads_by_sizes per d c a (suc n) cs = rw (reads_by_sizes per d c (add_p a d) n cs) (omega arith)

writes_up_sizes : (per : Weights) (w : List ℕ) (i a n : ℕ) → weighed per (writes_up w i a n) ≡ per.of_ram * n
unfolding writes_up
writes_up_sizes per w i a zero = omega arith
writes_up_sizes per w i a (suc n) = rw (writes_up_sizes per w (i + 1) (add_p a 1) n) (omega arith)

module _ (per : Weights) (m : Machine) (s : Sound m) (here : m.state.pointer < length m.code.opcodes) where
  read-mem-change : (a b n : ℕ) → length (words_by down (ram m) a n ++ (b ∷ [])) + 0 ≡ 1 + n
  read-mem-change a b n = simp (length-append, words_by_length) (omega arith)

  pub read-mem-does : (n : ℕ) → n ≤ 5 → Acts (Does per m n 0 (per.of_ram * n)) (read_mem_of (ram m) (top m) n)
  unfolding read_mem_of
  read-mem-does n h =
      acting
      (records per m s here 1 n 0
      (words_append (words_by_words down (ram m) s.cells (st (top m) 0) n) (more (below _) none))
      (rw append-nil at (reads_by_honest down (ram m) s.cells (st (top m) 0) n (words_get_d 15 (sees m s)) Honest.none))
      ((rw append-nil at (reads_by_sizes per down (ram m) (st (top m) 0) n [])) ∙ add-zero _)
      (omega arith)
      (read-mem-change (st (top m) 0) _ n))

  pub write-mem-does : (n : ℕ) → n ≤ 5 → Acts (Does per m 0 n (per.of_ram * n)) (write_mem_of (top m) n)
  unfolding write_mem_of
  write-mem-does n h =
      acting
      (records per m s here (n + 1) 0 n
      (more (below (st (top m) 0 + n)) none)
      (writes_up_honest (ram m) 1 (st (top m) 0) n (sees m s) (words_get_d 15 (sees m s)))
      (writes_up_sizes per (top m) 1 (st (top m) 0) n)
      (omega arith)
      (omega arith))

  taken-does : (n : ℕ) → n ≤ length (public_left m) → Does per m n 0 0 (taken n (public_left m))
  taken-does n l = record {
    own = record {
      pops = omega arith;
      change = rw (length-take-le n (public_left m) l) (omega arith);
      words = words_take n (words-drop m.state.publics s.code.public);
      calls = Honest.none;
      sizes = refl;
    };
    rest = record {
      next = onward_word m s here;
      jump = HonestJump.staying;
      publics = omega (arith, s.publics, l, length-drop m.state.publics m.code.public);
      secrets = omega (arith, s.secrets);
      digests = omega (arith, s.digests);
      sponge = s.sponge;
    };
  }

  pub read_io_does : (n : ℕ) → Acts (Does per m n 0 0) (read_io_of n (public_left m))
  unfolding read_io_of
  read_io_does n = acts-unless (ltb (length (public_left m)) n) _ (λ t. acting (taken-does n (ltb-false (length (public_left m)) n t)))

  pub write_io_does : (n : ℕ) → n ≤ 5 → Acts (Does per m 0 n 0) (write_io_of (top m) n)
  unfolding write_io_of
  write_io_does n h = acting (puts-does per m s here n 0 n none (omega arith) (omega arith))
