use Rattle.std.proofs.Common.{ap, ◌∙◌, ℕ}
use Rattle.field.specs.Base.{mul_p}
use Rattle.tip5.specs.SplitAndLookup.{looked_up, inverse64, split_and_lookup}
use Rattle.tip5.proofs.split_and_lookup.Laws.{scaled-is, unscaled}
use Rattle.tip5.proofs.split_and_lookup.split_and_lookup.Goals as goal

pub returns : goal.returns
unfolding split_and_lookup
returns c =
    let scaled = c.looked_up-z.ensures ∙ ap looked_up (c.reduce.ensures ∙ scaled-is _) in
    rw (c.neg.ensures, c.reduce-2.ensures, c.high.ensures.0, c.low.ensures.0) (unscaled _ ∙ ap (λ (z : ℕ). mul_p z inverse64) scaled)
