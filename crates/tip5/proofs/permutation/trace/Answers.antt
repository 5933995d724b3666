use Rattle.std.proofs.Common.{refl, ap, ◌∙◌, drop, arith}
use Rattle.tip5.specs.Round.{round_of}
use Rattle.tip5.specs.Words.{Words}
use Rattle.tip5.proofs.permutation.Laws.{trace-start, trace-more, trace-all, trace-last, trace-words}
use Rattle.tip5.proofs.permutation.trace.Goals as goal

pub loop-r-init : goal.loop-r-init
loop-r-init c = trace-start _ c.args.words _ c.copy_from_slice.ensures.after (omega arith) refl

pub loop-r-preserved : goal.loop-r-preserved
loop-r-preserved c =
    let l = c.loop-r in
    trace-more l.out _ c.round-s.result c.args.words l.r _ (omega arith) l.invariant.0 (omega arith) c.copy_from_slice-in-loop-r.ensures.after (c.round-s.ensures ∙ ap (round_of l.r) l.invariant.1) l.invariant.2

pub returns : goal.returns
returns c =
    let l = c.loop-r in
    let w = c.args.words in
    let e = trace-all l.out w l.r l.invariant.0 (omega arith) l.invariant.2 in
    record { is = e; last = ap (drop 80) e ∙ trace-last w (omega arith); words = λ (g : Words w). rw e (trace-words w g) }
