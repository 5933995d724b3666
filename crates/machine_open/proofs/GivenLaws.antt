-- The answers of the calls that give words of a machine, where place A accepts and where it refuses. Assumes nothing.
use mathlib.Core.Path.{◌≡◌, sym, ap, ◌∙◌}
use mathlib.Core.List.{List}
use Prim.Native.Nat.{ℕ, ◌<◌}
use borrow.Author.Tests.{eq-eqb}
use lib.ListN.{length, replicate}
use Rattle.machine.specs.Machine.{Machine}
use Rattle.machine.specs.PlaceA.{machine_a}
use Rattle.machine.specs.Given.{given, given_of}
use Rattle.machine.specs.Sound.{Sound}
use Rattle.machine.proofs.PlaceA.{machine-sound}
use Rattle.machine.proofs.Refused.{given-refused, number_a_some}
use Rattle.std.specs.Prelude.{Result, Ok, Err, IsErrAnd}
use native.Mathlib.Omega.{arith}
use Rattle.machine.specs.declared.refusal.PlaceA.{PlaceA}
use Rattle.machine.specs.Refusal.{number_a}
use Rattle.machine_open.specs.GivenView.{given_in}

module _ (m : Machine) where
  -- the sponge has sixteen words and the clock 32 bits by their types
  pub accepted_sound : 0 ≡ machine_a m → length m.state.sponge.words ≡ 16 → m.state.clock < 4294967296 → Sound m
  accepted_sound h sixteen clock = machine-sound m sixteen clock (sym h)

  pub given_is : 0 ≡ machine_a m → (k : ℕ) {w s : List ℕ} → w ≡ s → given 0 w ≡ given_of m k s
  unfolding given_of
  given_is h k e = rw (eq-eqb (machine_a m) 0 (sym h)) (ap (given 0) e)

  pub given_turned : (e : PlaceA) (r : Result (List ℕ) PlaceA) (k : ℕ) (s : List ℕ) → number_a e ≡ machine_a m → IsErrAnd r (λ x. x ≡ e) → given_in k r ≡ given_of m k s
  given_turned e (Ok w) k s h d = absurd d
  given_turned e (Err x) k s h d = ap (λ (y : PlaceA). given (number_a y) (replicate k 0)) d ∙ ap (λ (y : ℕ). given y (replicate k 0)) h ∙ sym (given-refused m k s (λ z. omega (arith, number_a_some e, h)))
