use Rattle.std.proofs.Common.{◌≡◌, sym, ap, ◌∙◌, ℕ, arith}
use Rattle.tip5.specs.Permutation.{state_of, permutation_of}
use Rattle.tip5.specs.Round.{round_of}
use Rattle.tip5.proofs.permutation.Laws.{state-zero, state-more, permutation-words}
use Rattle.tip5.proofs.permutation.permuted.Goals as goal

pub loop-r-init : goal.loop-r-init
loop-r-init c = sym (state-zero _)

pub loop-r-preserved : goal.loop-r-preserved
loop-r-preserved c = c.round-s.ensures ∙ ap (round_of c.loop-r.r) c.loop-r.invariant ∙ sym (state-more _ _)

pub returns : goal.returns
unfolding permutation_of
returns c =
    let l = c.loop-r in
    let all : l.r ≡ 5 = omega arith in
    let w = c.args.words in
    let e : l.s ≡ permutation_of w = l.invariant ∙ ap (λ (n : ℕ). state_of n w) all in
    record { is = e; words = rw e (permutation-words w) }
