use Rattle.std.proofs.Common.{true, false, ap, ◌∙◌, ℕ, List, arith}
use Rattle.tip5.specs.Split.{dots_of}
use Rattle.tip5.specs.Tab.{tab}
use Rattle.tip5.proofs.matrix.Laws.{pairs_below, total-small, summed_total, joinable-4, rows-4}
use Rattle.tip5.proofs.matrix.cyclic_8.Goals as goal

pub dots-requires : goal.dots-requires
dots-requires c = (omega arith, (omega arith, omega arith, rw c.sums-e.ensures (pairs_below false 4 _ c.requires)))

pub dots-requires-2 : goal.dots-requires-2
dots-requires-2 c = (omega arith, (omega arith, omega arith, rw c.differences-d.ensures (pairs_below true 4 _ c.requires)))

pub total-requires : goal.total-requires
total-requires c = (omega arith, total-small 4 4 c.args.x.now _ (omega arith) c.requires (omega arith) c.differences-d.ensures)

pub joined-requires : goal.joined-requires
joined-requires c =
    (omega arith, (omega arith, (omega arith, omega arith, joinable-4 c.args.x.now _ _ _ c.requires (c.dots.ensures ∙ ap (λ (l : List ℕ). tab (dots_of 22 l 4) 4) c.sums-e.ensures) (c.dots-2.ensures ∙ ap (λ (l : List ℕ). tab (dots_of 15 l 4) 4) c.differences-d.ensures) (summed_total 4 4 _ c.args.x.now _ (omega arith) c.differences-d.ensures c.total.ensures))))

pub returns : goal.returns
returns c =
    c.joined.ensures ∙ rows-4 c.args.x.now _ _ _ c.requires (c.dots.ensures ∙ ap (λ (l : List ℕ). tab (dots_of 22 l 4) 4) c.sums-e.ensures) (c.dots-2.ensures ∙ ap (λ (l : List ℕ). tab (dots_of 15 l 4) 4) c.differences-d.ensures) (summed_total 4 4 _ c.args.x.now _ (omega arith) c.differences-d.ensures c.total.ensures)
