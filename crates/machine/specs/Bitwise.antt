-- Arithmetic on u32. Each records its operands for the U32 table; xor under and's opcode.
use Rattle.std.specs.Prelude.{ℕ, ◌/◌, ◌%◌, ◌^◌, List, [], ◌∷◌, eqb, ltb}
use Rattle.field.specs.Base.{pow_p}
use Rattle.choices.specs.Choice.{cond}
use Rattle.machine.specs.Refusal.{division_by_zero, logarithm_of_zero}
use Rattle.machine.specs.Machine.{st}
use Rattle.machine.specs.Effect.{u32, Decision, acts, recording, u32_only, unless}
use Rattle.machine.specs.Bits.{ones_of, highest_of, both_of, either_of}

-- _ a becomes _ hi lo
unfoldable pub split_of : List ℕ → Decision
split_of w = acts (recording (u32 4 (st w 0 % 2 ^ 32) (st w 0 / 2 ^ 32) ∷ []) 1 (st w 0 / 2 ^ 32 ∷ st w 0 % 2 ^ 32 ∷ []))

unfoldable pub lt_of : List ℕ → Decision
lt_of w = u32_only (st w 0) (u32_only (st w 1) (acts (recording (u32 6 (st w 0) (st w 1) ∷ []) 2 (cond (ltb (st w 0) (st w 1)) 1 0 ∷ []))))

unfoldable pub and_of : List ℕ → Decision
and_of w = u32_only (st w 0) (u32_only (st w 1) (acts (recording (u32 14 (st w 0) (st w 1) ∷ []) 2 (both_of 32 (st w 0) (st w 1) ∷ []))))

unfoldable pub xor_of : List ℕ → Decision
xor_of w = u32_only (st w 0) (u32_only (st w 1) (acts (recording (u32 14 (st w 0) (st w 1) ∷ []) 2 (either_of 32 (st w 0) (st w 1) ∷ []))))

unfoldable pub log2_floor_of : List ℕ → Decision
log2_floor_of w = u32_only (st w 0) (unless (eqb (st w 0) 0) logarithm_of_zero (acts (recording (u32 12 (st w 0) 0 ∷ []) 1 (highest_of 31 (st w 0) ∷ []))))

-- _ e b becomes _ b^e; the base may be any word
unfoldable pub pow_of : List ℕ → Decision
pow_of w = u32_only (st w 1) (acts (recording (u32 30 (st w 0) (st w 1) ∷ []) 2 (pow_p (st w 0) (st w 1) ∷ [])))

-- _ d n becomes _ q r with n = q * d + r
unfoldable pub div_mod_of : List ℕ → Decision
div_mod_of w =
    u32_only (st w 0)
    (u32_only (st w 1)
    (unless (eqb (st w 1) 0) division_by_zero
    (acts (recording (u32 6 (st w 0 % st w 1) (st w 1) ∷ u32 4 (st w 0) (st w 0 / st w 1) ∷ []) 2 (st w 0 / st w 1 ∷ st w 0 % st w 1 ∷ [])))))

unfoldable pub pop_count_of : List ℕ → Decision
pop_count_of w = u32_only (st w 0) (acts (recording (u32 28 (st w 0) 0 ∷ []) 1 (ones_of 32 (st w 0) ∷ [])))
