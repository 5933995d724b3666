-- Tip5: the S-box layer.
use Rattle.std.specs.Prelude.{cond, List, ℕ, ltb, get_or}
use Rattle.field.specs.Base.{pow_p}
use Rattle.tip5.specs.SplitAndLookup.{split_and_lookup}
use Rattle.tip5.specs.Tab.{tab}

-- Tip5: words 0 to 3 go through split-and-lookup, words 4 to 15 are raised to the power 7
unfoldable pub sbox_of : ℕ → ℕ → ℕ
sbox_of i x = cond (ltb i 4) (split_and_lookup x) (pow_p x 7)

abbrev pub sbox_at : List ℕ → ℕ → ℕ
sbox_at s i = sbox_of i (get_or s i 0)

unfoldable pub sbox_layer_of : List ℕ → List ℕ
sbox_layer_of s = tab (sbox_at s) 16
