use Rattle.std.proofs.Common.{◌∙◌, ap, eq-eqb}
use borrow.Author.Tests.{ne_eqb}
use Rattle.machine.specs.Effect.{puts}
use Rattle.machine.specs.Refusal.{refusal_of}
use Rattle.machine.specs.Arithmetic.{invert_of}
use Rattle.machine_effects.proofs.Effects.{acts_as, refuses-as}
use Rattle.machine_arithmetic.proofs.arithmetic.invert.Goals as goal

pub returns-then-a-eq0 : goal.returns-then-a-eq0
unfolding invert_of refusal_of
returns-then-a-eq0 c = rw (c.into.ensures, refuses-as _, ← c.word-a.ensures.value, eq-eqb _ _ c.if-a-eq0.true)

pub returns : goal.returns
unfolding invert_of
returns c =
    acts_as _ (c.puts.ensures ∙ ap (puts 1) c.of.ensures.words) ∙ rw (c.inverse_or_zero.ensures, ← c.word-a.ensures.value, ne_eqb _ _ c.if-a-eq0.false)
