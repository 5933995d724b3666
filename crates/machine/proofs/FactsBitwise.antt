-- Arithmetic on u32: what holds of the effect that each instruction acts. Assumes nothing.
use mathlib.Core.Path.{◌≡◌, refl}
use mathlib.Core.Bool.{Bool, true, false}
use mathlib.Core.List.{List, [], ◌∷◌}
use Prim.Native.Nat.{ℕ, zero, suc, ◌+◌, ◌*◌, ◌/◌, ◌%◌, ◌^◌, ◌≤◌, ◌<◌}
use native.Mathlib.Nat.{mod-le, div-le_self, two-pow-succ}
use native.Mathlib.Omega.{arith}
use borrow.Author.Tests.{le-ltb}
use lib.ListN.{length}
use lib.Dec.{eqb, ltb, lit<}
use Rattle.field.specs.Base.{p}
use Rattle.field.proofs.Ring.{below}
use Rattle.choices.specs.Choice.{cond}
use Rattle.machine.specs.Words.{none, more}
use Rattle.machine.specs.Refusal.{failed_u32_conversion}
use Rattle.machine.specs.Machine.{Machine, st, top, ram}
use Rattle.machine.specs.Effect.{u32, refuses}
use Rattle.machine.specs.Bits.{ones_of, highest_of, both_of, either_of}
use Rattle.machine.specs.Bitwise.{split_of, lt_of, and_of, xor_of, log2_floor_of, pow_of, div_mod_of, pop_count_of}
use Rattle.machine.specs.Sound.{Sound, Honest}
use Rattle.machine.proofs.Words.{words_get_d}
use Rattle.machine.proofs.Seen.{sees}
use Rattle.machine.proofs.Acts.{Acts, acting, acts-unless, acts-u32}
use Rattle.machine.proofs.Does.{Weights, Does, records}
use Rattle.machine.proofs.FactsArithmetic.{said_word}

-- ---- what is made of binary digits is small

ones_small : (n a : ℕ) → ones_of n a ≤ n
unfolding ones_of
ones_small zero a = omega arith
ones_small (suc n) a = omega (arith, ones_small n (a / 2))

highest-small : (n a : ℕ) → highest_of n a ≤ n
unfolding highest_of
highest-small zero a = omega arith
highest-small (suc n) a = go (eqb (a / 2) 0) (highest-small n (a / 2))
  where
    go : (t : Bool) → highest_of n (a / 2) ≤ n → cond t 0 (1 + highest_of n (a / 2)) ≤ suc n
    go true h = omega arith
    go false h = omega arith

times_digit : (x y : ℕ) → y < 2 → x * y ≤ x
times_digit x zero h = omega arith
times_digit x (suc zero) h = omega arith
times_digit x (suc (suc y)) h = absurd (omega arith)

both_small : (n a b : ℕ) → both_of n a b ≤ a
unfolding both_of
both_small zero a b = omega arith
both_small (suc n) a b = omega (arith, both_small n (a / 2) (b / 2), times_digit (a % 2) (b % 2) (omega arith))

either_small : (n a b : ℕ) → either_of n a b < 2 ^ n
unfolding either_of
either_small zero a b = lit< tt
either_small (suc n) a b = omega (arith, either_small n (a / 2) (b / 2), two-pow-succ n)

-- ---- 13 before 21: a word that is not a u32 is refused whatever the divisor

pub div-mod_word : (w : List ℕ) → 2 ^ 32 ≤ st w 0 → div_mod_of w ≡ refuses (failed_u32_conversion (st w 0))
unfolding div_mod_of
div-mod_word w h = rw (le-ltb (st w 0) (2 ^ 32) h)

-- ---- the instructions

module _ (per : Weights) (m : Machine) (s : Sound m) (here : m.state.pointer < length m.code.opcodes) where
  low : (i : ℕ) → st (top m) i < p
  low i = words_get_d _ (sees m s)

  one : {o l r : ℕ} → Honest (ram m) (u32 o l r ∷ [])
  one = Honest.u32s Honest.none

  pub split-does : Acts (Does per m 1 0 (per.of_u32 + 0)) (split_of (top m))
  unfolding split_of
  split-does = acting (records per m s here 1 1 0 (more high (more rest none)) one refl (omega arith) refl)
    where
      high : st (top m) 0 / 2 ^ 32 < p
      high = omega (arith, low 0)

      rest : st (top m) 0 % 2 ^ 32 < p
      rest = omega (arith, low 0)

  pub lt-does : Acts (Does per m 0 1 (per.of_u32 + 0)) (lt_of (top m))
  unfolding lt_of
  lt-does =
      acts-u32 (st (top m) 0) (λ _. acts-u32 (st (top m) 1)
      (λ _. acting (records per m s here 2 0 1 (more (said_word (ltb (st (top m) 0) (st (top m) 1))) none) one refl (omega arith) refl)))

  pub and-does : Acts (Does per m 0 1 (per.of_u32 + 0)) (and_of (top m))
  unfolding and_of
  and-does =
      acts-u32 (st (top m) 0) (λ _. acts-u32 (st (top m) 1)
      (λ _. acting (records per m s here 2 0 1 (more both none) one refl (omega arith) refl)))
    where
      both : both_of 32 (st (top m) 0) (st (top m) 1) < p
      both = omega (arith, low 0, both_small 32 (st (top m) 0) (st (top m) 1))

  pub xor-does : Acts (Does per m 0 1 (per.of_u32 + 0)) (xor_of (top m))
  unfolding xor_of
  xor-does =
      acts-u32 (st (top m) 0) (λ _. acts-u32 (st (top m) 1)
      (λ _. acting (records per m s here 2 0 1 (more either none) one refl (omega arith) refl)))
    where
      either : either_of 32 (st (top m) 0) (st (top m) 1) < p
      either = omega (arith, either_small 32 (st (top m) 0) (st (top m) 1))

  pub log_2_floor_does : Acts (Does per m 0 0 (per.of_u32 + 0)) (log2_floor_of (top m))
  unfolding log2_floor_of
  log_2_floor_does =
      acts-u32 (st (top m) 0) (λ _. acts-unless (eqb (st (top m) 0) 0) _
      (λ _. acting (records per m s here 1 0 0 (more highest none) one refl (omega arith) refl)))
    where
      highest : highest_of 31 (st (top m) 0) < p
      highest = omega (arith, highest-small 31 (st (top m) 0))

  pub pow-does : Acts (Does per m 0 1 (per.of_u32 + 0)) (pow_of (top m))
  unfolding pow_of
  pow-does = acts-u32 (st (top m) 1) (λ _. acting (records per m s here 2 0 1 (more (below _) none) one refl (omega arith) refl))

  pub div-mod-does : Acts (Does per m 0 0 (per.of_u32 + (per.of_u32 + 0))) (div_mod_of (top m))
  unfolding div_mod_of
  div-mod-does =
      acts-u32 (st (top m) 0) (λ _. acts-u32 (st (top m) 1) (λ _. acts-unless (eqb (st (top m) 1) 0) _
      (λ _. acting (records per m s here 2 0 0 (more quotient (more rest none)) (Honest.u32s (Honest.u32s Honest.none)) refl (omega arith) refl))))
    where
      quotient : st (top m) 0 / st (top m) 1 < p
      quotient = omega (arith, low 0, div-le_self (st (top m) 0) (st (top m) 1))

      rest : st (top m) 0 % st (top m) 1 < p
      rest = omega (arith, low 0, mod-le (st (top m) 0) (st (top m) 1))

  pub pop-count-does : Acts (Does per m 0 0 (per.of_u32 + 0)) (pop_count_of (top m))
  unfolding pop_count_of
  pop-count-does = acts-u32 (st (top m) 0) (λ _. acting (records per m s here 1 0 0 (more ones none) one refl (omega arith) refl))
    where
      ones : ones_of 32 (st (top m) 0) < p
      ones = omega (arith, ones_small 32 (st (top m) 0))
