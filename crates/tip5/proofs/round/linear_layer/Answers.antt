use Rattle.std.proofs.Common.{rules, true, false, ap, ◌∙◌, ℕ, ◌+◌, ◌*◌, ◌%◌, ◌^◌, ◌<◌, get_or}
use Rattle.field.specs.Base.{p}
use Rattle.tip5.specs.Round.{constant_of}
use Rattle.tip5.proofs.FromFn.{tab_from_fn}
use Rattle.tip5.proofs.Tab.{tab_cong}
use Rattle.tip5.proofs.matrix.Laws.{half-row, by-halves}
use Rattle.tip5.proofs.round.Laws.{summed, summed-is}
use Rattle.tip5.proofs.round.linear_layer.Goals as goal

pub returns : goal.returns
returns c =
    let s = c.args.s.now in
    let r = c.args.r in
    tab_from_fn _ _ (λ (i : ℕ). (get_or c.mds-hi.result i 0 * 2 ^ 32 + get_or c.mds-lo.result i 0 + constant_of r i) % p) _ _ c.from_fn.ensures.items (λ i y q lt k. search rules)
    ∙ tab_cong _ (summed r s) 16
    (λ (i : ℕ) (h : i < 16).
    let lo = half-row false s _ _ i c.lower_halves.ensures.0 c.mds-lo.ensures.0 h in
    let hi = half-row true s _ _ i c.upper_halves.ensures.0 c.mds-hi.ensures.0 h in
    (λ n. (hi n * 2 ^ 32 + lo n + constant_of r i) % p) ∙ ap (λ (x : ℕ). (x + constant_of r i) % p) (by-halves s i))
    ∙ summed-is r s
