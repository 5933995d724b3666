use Rattle.std.proofs.Common.{true, ap, ◌∙◌, ℕ, List, arith}
use Rattle.tip5.specs.Split.{dots_of, row8}
use Rattle.tip5.specs.Tab.{tab}
use Rattle.tip5.proofs.matrix.Laws.{pairs_below, total-small, summed_total, halves-sums-below, joinable-8, rows-8, product-below}
use Rattle.tip5.proofs.matrix.mds.Goals as goal

pub cyclic_8-requires : goal.cyclic_8-requires
cyclic_8-requires c = rw c.sums-e.ensures (halves-sums-below _ c.requires)

pub dots-requires : goal.dots-requires
dots-requires c = (omega arith, (omega arith, omega arith, rw c.differences-d.ensures (pairs_below true 8 _ (λ (k : ℕ). omega (arith, c.requires k)))))

pub total-requires : goal.total-requires
total-requires c = (omega arith, total-small 8 8 c.args.x.now _ (omega arith) (λ (k : ℕ). omega (arith, c.requires k)) (omega arith) c.differences-d.ensures)

pub joined-requires : goal.joined-requires
joined-requires c =
    (omega arith, (omega arith, (omega arith, omega arith, joinable-8 c.args.x.now _ _ _ c.requires (c.cyclic_8.ensures ∙ ap (λ (l : List ℕ). tab (row8 l) 8) c.sums-e.ensures) (c.dots.ensures ∙ ap (λ (l : List ℕ). tab (dots_of 0 l 8) 8) c.differences-d.ensures) (summed_total 8 8 _ c.args.x.now _ (omega arith) c.differences-d.ensures c.total.ensures))))

pub returns : goal.returns
returns c =
    let e =
    c.joined.ensures ∙ rows-8 c.args.x.now _ _ _ c.requires (c.cyclic_8.ensures ∙ ap (λ (l : List ℕ). tab (row8 l) 8) c.sums-e.ensures) (c.dots.ensures ∙ ap (λ (l : List ℕ). tab (dots_of 0 l 8) 8) c.differences-d.ensures) (summed_total 8 8 _ c.args.x.now _ (omega arith) c.differences-d.ensures c.total.ensures) in
    (e, product-below _ _ e c.requires)
