use Rattle.std.proofs.Common.{eq-eqb}
use borrow.Author.Tests.{ne_eqb}
use Rattle.machine.specs.HelperVariables.{split_helper}
use Rattle.machine_helpers.proofs.seen.Seen.split.Goals as goal

pub returns-then-low-eq0 : goal.returns-then-low-eq0
unfolding split_helper
returns-then-low-eq0 c = rw (← c.st-x.ensures, ← c.low.ensures.0, eq-eqb _ _ c.if-low-eq0.true)

pub returns-else-low-eq0 : goal.returns-else-low-eq0
unfolding split_helper
returns-else-low-eq0 c =
    rw (← c.st-x.ensures, c.inverse_of_difference.ensures, c.high.ensures.0, ← c.low.ensures.0, ne_eqb _ _ c.if-low-eq0.false)
