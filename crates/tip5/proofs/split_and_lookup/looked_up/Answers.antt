use Rattle.std.proofs.Common.{rules, ◌∙◌}
use Rattle.tip5.proofs.FromFn.{tab_from_fn}
use Rattle.tip5.proofs.split_and_lookup.Laws.{looked-up-is}
use Rattle.tip5.proofs.split_and_lookup.looked_up.Goals as goal

pub returns : goal.returns
returns c =
    c.from_le_bytes.ensures ∙ looked-up-is _ _ (tab_from_fn _ _ _ _ _ c.from_fn.ensures.items (λ i y q lt k. search rules))
