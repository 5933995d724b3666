-- A round: the matrix and the constants in one sum. Assumes nothing.
use mathlib.Core.List.{List}
use mathlib.Core.Path.{◌≡◌, sym, ap, ◌∙◌}
use Prim.Native.Nat.{ℕ, ◌+◌, ◌%◌, ◌<◌}
use native.Mathlib.Nat.{mod-add-mod}
use lib.Dec.{lit<}
use lib.ListN.{length}
use Rattle.field.specs.Base.{p, add_p}
use Rattle.tip5.specs.Matrix.{row_sum, row_of, mds_of}
use Rattle.tip5.specs.Round.{constant_of, constant_added, with_constants, round_of}
use Rattle.tip5.specs.Sbox.{sbox_layer_of}
use Rattle.tip5.specs.Tab.{tab}
use Rattle.tip5.specs.Words.{Words}
use Rattle.field.proofs.Ring.{below}
use Rattle.tip5.proofs.Tab.{tab-at, tab_cong, tab-length, tab-below}

-- what the code computes: the sum of a row and the constant, reduced once
abbrev pub summed : ℕ → List ℕ → ℕ → ℕ
summed r s i = (row_sum s i + constant_of r i) % p

pub summed-is : (r : ℕ) (s : List ℕ) → tab (summed r s) 16 ≡ with_constants r (mds_of s)
unfolding with_constants mds_of
summed-is r s = tab_cong (summed r s) (constant_added r (tab (row_of s) 16)) 16 one
  where
    one : (i : ℕ) → i < 16 → summed r s i ≡ constant_added r (tab (row_of s) 16) i
    one i h = sym (mod-add-mod (row_sum s i) p (constant_of r i)) ∙ ap (λ (x : ℕ). add_p x (constant_of r i)) (sym (tab-at (row_of s) 16 i h))

pub round-length : (r : ℕ) (s : List ℕ) → length (round_of r s) ≡ 16
unfolding round_of with_constants
round-length r s = tab-length (constant_added r (mds_of (sbox_layer_of s))) 16

-- a round gives words, whatever it is given
pub round-words : (r : ℕ) (s : List ℕ) → Words (round_of r s)
unfolding round_of with_constants
round-words r s = tab-below (constant_added r (mds_of (sbox_layer_of s))) p (lit< tt) (λ (i : ℕ). below _) 16
