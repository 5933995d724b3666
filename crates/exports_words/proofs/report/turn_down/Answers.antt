use borrow.Author.Tests.{eq-eqb, ne_eqb}
use Rattle.exports_words.specs.Report.{said_of, answer_of, misfit}
use Prim.Native.Nat.{ℕ}
use mathlib.Core.Path.{ap, ◌∙◌}
use Rattle.exports_words.proofs.report.turn_down.Goals as goal

pub returns-then-answer-n : goal.returns-then-answer-n
unfolding said_of
returns-then-answer-n c =
    rw (eq-eqb _ c.args.n c.if-answer-n.true) (c.write_answer.ensures ∙ ap (λ (k : ℕ). answer_of k misfit) c.if-answer-n.true)

pub returns-else-answer-n : goal.returns-else-answer-n
unfolding said_of
returns-else-answer-n c =
    rw (ne_eqb _ c.args.n c.if-answer-n.false)
