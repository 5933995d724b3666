-- The calls that give words of a machine, where the slices fit and where they do not. Assumes nothing.
use mathlib.Core.Path.{◌≡◌, sym, ap, ◌∙◌}
use mathlib.Core.Bool.{Bool, true, false}
use mathlib.Core.List.{List}
use Prim.Native.Nat.{ℕ}
use Rattle.machine.specs.declared.state.VMState.{VMState}
use Rattle.machine.specs.Machine.{Code, Memory, Machine, machine}
use Rattle.machine.specs.Given.{Given, given}
use Rattle.exports_words.specs.Registers.{state_of}
use Rattle.exports_words.specs.Calls.{fits_of}
use Rattle.exports_calls.specs.GivenCall.{zeroed, given_call}

module _ (k : ℕ) (f : Machine → Given) (w v : List ℕ) (c : Code) (m : Memory) {t : Bool} (e : t ≡ fits_of w v k) where
  pub given-called : {s : VMState} {n : ℕ} {r v2 : List ℕ} → t ≡ true → s ≡ state_of w → given n r ≡ f (machine s c m) → v2 ≡ r → given n v2 ≡ given_call k f w v c m
  unfolding given_call
  given-called {n = n} h g q i = rw (sym e ∙ h) (ap (given n) i ∙ q ∙ ap (λ (x : VMState). f (machine x c m)) g)

  pub given_misfits : {v2 : List ℕ} → t ≡ false → v2 ≡ zeroed k v → given 1 v2 ≡ given_call k f w v c m
  unfolding given_call
  given_misfits h q = rw (sym e ∙ h) (ap (given 1) q)
