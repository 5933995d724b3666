use Rattle.std.proofs.Common.{ap, ◌++◌, List, ℕ, ◌∙◌, length, drop, [], ◌∷◌}
use Rattle.job.proofs.FrameLaws.{zeros_behind}
use Rattle.job.proofs.frame.padded.Goals as goal

pub returns : goal.returns
returns c =
    ap (λ (u : List ℕ). u ++ drop (length c.args.bytes.now) (0 ∷ 0 ∷ 0 ∷ 0 ∷ 0 ∷ 0 ∷ 0 ∷ 0 ∷ [])) c.copy_from_slice.ensures.after
    ∙ ap (λ (u : List ℕ). c.args.bytes.now ++ u) (zeros_behind (length c.args.bytes.now) c.requires)
