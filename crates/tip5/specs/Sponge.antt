-- Tip5: the sponge. Rate 10: words 0 to 9 take in and give out; words 10 to 15 are the capacity.
use Rattle.std.specs.Prelude.{true, List, ◌++◌, ℕ, take, drop, replicate}
use Rattle.tip5.specs.declared.sponge.Sponge.{Sponge}
use Rattle.tip5.specs.declared.sponge.Squeezed.{Squeezed}
use Rattle.tip5.specs.declared.sponge.Domain.{Domain}
use Rattle.tip5.specs.declared.sponge.Domain.TheVariants.{VariableLength, FixedLength}
use Rattle.tip5.specs.Permutation.{permutation_of}

-- Tip5: capacity is all ones for fixed-length hashing, zeros at sponge_init and for variable-length hashing
abbrev pub capacity_of : Domain → ℕ
capacity_of VariableLength = 0
capacity_of FixedLength = 1

abbrev pub new_of : Domain → Sponge
new_of d = record { words = replicate 10 0 ++ replicate 6 (capacity_of d); set = true }

abbrev pub permuted_sponge : Sponge → Sponge
permuted_sponge sponge = record { words = permutation_of sponge.words; set = sponge.set }

-- Tip5: overwrite words 0 to 9 by the block and permute
abbrev pub absorb_of : Sponge → List ℕ → Sponge
absorb_of sponge block = record { words = permutation_of (block ++ drop 10 sponge.words); set = sponge.set }

-- words 0 to 9 are given out, then all are permuted
abbrev pub squeeze_of : Sponge → Squeezed
squeeze_of s = record { words = take 10 s.words; sponge = permuted_sponge s }
