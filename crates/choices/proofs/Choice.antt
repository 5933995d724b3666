-- Laws of choices: the first number that applies, and the tests that give a number.
use mathlib.Core.Path.{◌≡◌, refl}
use mathlib.Core.Bool.{Bool, true, false}
use Prim.Native.Nat.{ℕ, ◌≤◌, ◌<◌}
use native.Mathlib.Omega.{arith}
use borrow.Author.Tests.{eq-eqb, ne_eqb, lt-ltb, le-ltb, ltb-false, eqb-true, eqb-false}
use lib.Dec.{eqb, ltb}
use Rattle.choices.specs.Choice.{first_of, above_of, differ_of}

pub first_zero : (a b : ℕ) → a ≡ 0 → first_of a b ≡ b
unfolding first_of
first_zero a b h = rw (eq-eqb a 0 h)

pub first-left : (a b : ℕ) → (a ≡ 0 → ⊥) → first_of a b ≡ a
unfolding first_of
first-left a b h = rw (ne_eqb a 0 h)

pub first-nil : (a b : ℕ) → first_of a b ≡ 0 → (a ≡ 0) × (b ≡ 0)
unfolding first_of
first-nil a b h = go (eqb a 0) refl
  where
    go : (t : Bool) → eqb a 0 ≡ t → (a ≡ 0) × (b ≡ 0)
    go true e = (eqb-true a 0 e, rw e at h)
    go false e = let z : a ≡ 0 = rw e at h in absurd (eqb-false a 0 e z)

pub above-not : (a b n : ℕ) → a ≤ b → above_of a b n ≡ 0
unfolding above_of
above-not a b n h = rw (le-ltb b a h)

pub above-is : (a b n : ℕ) → b < a → above_of a b n ≡ n
unfolding above_of
above-is a b n h = rw (lt-ltb b a h)

pub above-nil : (a b n : ℕ) → 0 < n → above_of a b n ≡ 0 → a ≤ b
unfolding above_of
above-nil a b n k h = go (ltb b a) refl
  where
    go : (t : Bool) → ltb b a ≡ t → a ≤ b
    go true e = let z : n ≡ 0 = rw e at h in omega arith
    go false e = ltb-false b a e

pub differ_not : (a b n : ℕ) → a ≡ b → differ_of a b n ≡ 0
unfolding differ_of
differ_not a b n h = rw (eq-eqb a b h)

pub differ_is : (a b n : ℕ) → (a ≡ b → ⊥) → differ_of a b n ≡ n
unfolding differ_of
differ_is a b n h = rw (ne_eqb a b h)

pub differ_nil : (a b n : ℕ) → 0 < n → differ_of a b n ≡ 0 → a ≡ b
unfolding differ_of
differ_nil a b n k h = go (eqb a b) refl
  where
    go : (t : Bool) → eqb a b ≡ t → a ≡ b
    go true e = eqb-true a b e
    go false e = let z : n ≡ 0 = rw e at h in omega arith
