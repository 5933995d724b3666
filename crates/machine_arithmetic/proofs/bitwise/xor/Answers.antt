use Rattle.std.proofs.Common.{ℕ, ◌∙◌, [], ◌∷◌}
use Rattle.machine.specs.Machine.{st}
use Rattle.machine.specs.Effect.{acts, recording, u32}
use Rattle.machine.specs.Bitwise.{xor_of}
use Rattle.machine_arithmetic.proofs.Checked.{made_alike}
use Rattle.machine_arithmetic.proofs.bitwise.xor.Goals as goal

pub returns : goal.returns
unfolding xor_of
returns c =
    let w = c.args.w.now.words in
    c.of_two.ensures.2
    ∙ made_alike (st w 0) (st w 1) _ _ (λ (x : ℕ). acts (recording (u32 14 (st w 0) (st w 1) ∷ []) 2 (x ∷ []))) c.of_two.ensures.1
