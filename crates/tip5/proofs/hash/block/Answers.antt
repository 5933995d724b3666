use Rattle.std.proofs.Common.{rules, sym, ◌∙◌}
use Rattle.tip5.proofs.FromFn.{tab_from_fn}
use Rattle.tip5.proofs.hash.Laws.{word_of, block-is}
use Rattle.tip5.proofs.hash.block.Goals as goal

pub returns : goal.returns
returns c =
    let xs = c.args.input.now in
    tab_from_fn _ _ (word_of xs c.args.n) _ _ c.from_fn.ensures.items (λ i y q lt k. search rules) ∙ sym (block-is xs c.args.n c.requires)
