use Rattle.std.proofs.Common.{◌≡◌, sym, ap, ◌∙◌, ℕ, ◌+◌, ◌/◌, take, length, arith}
use Rattle.tip5.specs.Hash.{padded_of, absorbed, hash_varlen_of}
use Rattle.tip5.specs.Sponge.{absorb_of}
use Rattle.tip5.specs.declared.sponge.Sponge.{Sponge}
use Rattle.tip5.proofs.hash.Laws.{absorbed-zero, absorbed-more}
use Rattle.tip5.proofs.hash.hash_varlen.Goals as goal

pub loop-n-init : goal.loop-n-init
loop-n-init c = c.init-sponge.ensures ∙ sym (absorbed-zero _)

pub loop-n-preserved : goal.loop-n-preserved
loop-n-preserved c = c.absorb-sponge.ensures ∙ (λ i. absorb_of (c.loop-n.invariant i) (c.block.ensures i)) ∙ sym (absorbed-more _ _)

pub returns : goal.returns
unfolding hash_varlen_of
returns c =
    let l = c.loop-n in
    let xs = c.args.input.now in
    let all : l.n ≡ length xs / 10 + 1 = omega arith in
    c.first.ensures ∙ ap (λ (s : Sponge). take 5 s.words) (l.invariant ∙ ap (λ (n : ℕ). absorbed n (padded_of xs)) all)
