use Rattle.std.proofs.Common.{eq-eqb}
use borrow.Author.Tests.{ne_eqb}
use Rattle.machine.specs.Refusal.{refusal_of}
use Rattle.machine.specs.Control.{assert_of}
use Rattle.machine_effects.proofs.Effects.{acts_as, refuses-as}
use Rattle.machine_effects.proofs.control.assert.Goals as goal

pub returns-then-a-eq1 : goal.returns-then-a-eq1
unfolding assert_of
returns-then-a-eq1 c = rw (acts_as _ c.takes_off.ensures, ← c.st-a.ensures, eq-eqb _ _ c.if-a-eq1.true)

pub returns-else-a-eq1 : goal.returns-else-a-eq1
unfolding assert_of refusal_of
returns-else-a-eq1 c = rw (c.into.ensures, refuses-as _, ← c.st-a.ensures, ne_eqb _ _ c.if-a-eq1.false)
