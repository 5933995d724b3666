-- The instructions that say what comes next: what holds of the effect that each acts. Assumes nothing.
use mathlib.Core.Path.{refl}
use mathlib.Core.Bool.{Bool, true, false}
use Prim.Native.Nat.{ℕ, ◌+◌, ◌-◌, ◌≤◌, ◌<◌}
use native.Mathlib.Omega.{arith}
use lib.ListN.{length, get_or}
use lib.Dec.{eqb, ltb}
use Rattle.field.specs.Base.{p}
use Rattle.choices.specs.Choice.{cond}
use Rattle.machine.specs.Words.{none}
use Rattle.machine.specs.Instruction.{size_of}
use Rattle.machine.specs.Machine.{Machine, st, top, JumpTop, empty, entry, jump_top}
use Rattle.machine.specs.Effect.{Next, onward, to, JumpChange, goes}
use Rattle.machine.specs.Control.{halt_of, nop_of, skiz_of, call_of, return_of, recurse_of, recurse_or_return_of, assert_of}
use Rattle.machine.specs.Apply.{pointer_after}
use Rattle.machine.specs.Sound.{Sound, Honest, HonestJump}
use Rattle.machine.proofs.Words.{words_get_d}
use Rattle.machine.proofs.Rows.{size_small}
use Rattle.machine.proofs.Acts.{Acts, acting, refusing, dropping, acts-cond}
use Rattle.machine.proofs.Does.{Weights, Does, near, onward_word, puts-does}

-- an entry of the jump stack is of words
data JumpWords : JumpTop → Type 0 where
  no_entry : JumpWords empty
  an_entry : {o d : ℕ} → o < p → d < p → JumpWords (entry o d)

jump_words_lem : (m : Machine) → Sound m → JumpWords (jump_top m)
unfolding jump_top
jump_words_lem m s = go (ltb 0 m.state.jumps)
  where
    go : (t : Bool) → JumpWords (cond t (entry (get_or m.memory.origins (m.state.jumps - 1) 0) (get_or m.memory.destinations (m.state.jumps - 1) 0)) empty)
    go true = an_entry (words_get_d (m.state.jumps - 1) s.origins.words) (words_get_d (m.state.jumps - 1) s.destinations.words)
    go false = no_entry

module _ (per : Weights) (m : Machine) (s : Sound m) (here : m.state.pointer < length m.code.opcodes) where
  goes-does : {next : Next} {jump : JumpChange} (n : ℕ) → n ≤ 16 → pointer_after m next < p → HonestJump jump → Does per m 0 n 0 (goes n next jump)
  goes-does n h k j = record {
    own = record { pops = h; change = omega arith; words = none; calls = Honest.none; sizes = refl };
    rest = record {
      next = k;
      jump = j;
      publics = omega (arith, s.publics);
      secrets = omega (arith, s.secrets);
      digests = omega (arith, s.digests);
      sponge = s.sponge;
    };
  }

  pub halt-does : Acts (Does per m 0 0 0) halt_of
  unfolding halt_of
  halt-does = acting (puts-does per m s here 0 0 0 none (omega arith) refl)

  pub nop_does : Acts (Does per m 0 0 0) nop_of
  unfolding nop_of
  nop_does = acting (puts-does per m s here 0 0 0 none (omega arith) refl)

  pub skiz-does : Acts (Does per m 0 1 0) (skiz_of m.code.opcodes m.state.pointer (top m))
  unfolding skiz_of
  skiz-does =
      acts-cond (eqb (st (top m) 0) 0)
      (λ _. acts-cond (ltb (m.state.pointer + 1) (length m.code.opcodes)) (λ _. acting (goes-does {next = to (m.state.pointer + 1 + size_of (get_or m.code.opcodes (m.state.pointer + 1) 0))} 1 (omega arith) over HonestJump.staying)) (λ _. dropping))
      (λ _. acting (goes-does {next = onward} 1 (omega arith) (onward_word m s here) HonestJump.staying))
    where
      over : m.state.pointer + 1 + size_of (get_or m.code.opcodes (m.state.pointer + 1) 0) < p
      over = omega (arith, near m s here, size_small (get_or m.code.opcodes (m.state.pointer + 1) 0))

  pub call-does : (n : ℕ) → n < p → Acts (Does per m 0 0 0) (call_of m.state.pointer n)
  unfolding call_of
  call-does n h = acting (goes-does {next = to n} 0 (omega arith) h (HonestJump.pushing behind h))
    where
      behind : m.state.pointer + 2 < p
      behind = omega (arith, near m s here)

  return_in : {j : JumpTop} → JumpWords j → Acts (Does per m 0 0 0) (return_of j)
  unfolding return_of
  return_in no_entry = refusing
  return_in (an_entry {o} h k) = acting (goes-does {next = to o} 0 (omega arith) h HonestJump.popping)

  recurse_in : {j : JumpTop} → JumpWords j → Acts (Does per m 0 0 0) (recurse_of j)
  unfolding recurse_of
  recurse_in no_entry = refusing
  recurse_in (an_entry {o} {d} h k) = acting (goes-does {next = to d} 0 (omega arith) k HonestJump.staying)

  pub return-does : Acts (Does per m 0 0 0) (return_of (jump_top m))
  return-does = return_in (jump_words_lem m s)

  pub recurse-does : Acts (Does per m 0 0 0) (recurse_of (jump_top m))
  recurse-does = recurse_in (jump_words_lem m s)

  pub recurse_or_return-does : Acts (Does per m 0 0 0) (recurse_or_return_of (top m) (jump_top m))
  unfolding recurse_or_return_of
  recurse_or_return-does = acts-cond (eqb (st (top m) 5) (st (top m) 6)) (λ _. return-does) (λ _. recurse-does)

  pub assert-does : Acts (Does per m 0 1 0) (assert_of (top m))
  unfolding assert_of
  assert-does = acts-cond (eqb (st (top m) 0) 1) (λ _. acting (puts-does per m s here 1 0 1 none (omega arith) refl)) (λ _. refusing)
