use Rattle.std.proofs.Common.{rules, false}
use Rattle.tip5.specs.Split.{halves_of}
use Rattle.tip5.proofs.FromFn.{tab_from_fn}
use Rattle.tip5.proofs.matrix.Laws.{halves-below}
use Rattle.tip5.proofs.matrix.lower_halves.Goals as goal

pub returns : goal.returns
unfolding halves_of
returns c =
    let e = tab_from_fn _ _ _ _ _ c.from_fn.ensures.items (λ i y q lt k. search rules) in
    (e, rw e (halves-below false c.args.s.now c.fits-s))
