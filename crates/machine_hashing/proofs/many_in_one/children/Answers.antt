use Rattle.std.proofs.Common.{eq-eqb}
use borrow.Author.Tests.{ne_eqb}
use Rattle.machine.specs.ManyInOne.{siblings}
use Rattle.machine_hashing.proofs.many_in_one.children.Goals as goal

pub returns-then-index-eq0 : goal.returns-then-index-eq0
unfolding siblings
returns-then-index-eq0 c = rw (c.pair.ensures, eq-eqb _ _ c.if-index-eq0.true)

pub returns-else-index-eq0 : goal.returns-else-index-eq0
unfolding siblings
returns-else-index-eq0 c = rw (c.pair-else-index-eq0.ensures, ne_eqb _ _ c.if-index-eq0.false)
