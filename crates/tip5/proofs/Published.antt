-- A published vector, computed by the definitions: hash_10 of ten zeros. The program tip5_vectors runs the others.
use mathlib.Core.List.{[], ◌∷◌}
use mathlib.Core.Path.{◌≡◌, refl}
use lib.ListN.{replicate}
use Rattle.tip5.specs.Hash.{hash10_of}
use Rattle.tip5.specs.Matrix.{column, sum_to, mds_of}
use Rattle.tip5.specs.Permutation.{state_of, permutation_of}
use Rattle.tip5.specs.Round.{constants, with_constants, round_of}
use Rattle.tip5.specs.Sbox.{sbox_of, sbox_layer_of}
use Rattle.tip5.specs.SplitAndLookup.{lookup_of, bytes_of, number_of, looked_up, split_and_lookup}
use Rattle.tip5.specs.Tab.{tab}

pub hash10_zeros : hash10_of (replicate 10 0) ≡ 941080798860502477 ∷ 5295886365985465639 ∷ 14728839126885177993 ∷ 10358449902914633406 ∷ 14220746792122877272 ∷ []
unfolding tab lookup_of bytes_of number_of looked_up split_and_lookup sbox_of sbox_layer_of column sum_to mds_of constants with_constants round_of state_of permutation_of hash10_of
hash10_zeros = refl
