use borrow.Author.Tests.{lt-ltb, le-ltb}
use Rattle.replay_table.specs.Group.{inside}
use Rattle.replay_group.proofs.group.Span.has.Goals as goal

pub returns-then-address-self : goal.returns-then-address-self
unfolding inside
returns-then-address-self c = rw (lt-ltb _ _ c.if-address-self.true)

pub returns : goal.returns
unfolding inside
returns c = rw (le-ltb _ _ c.if-address-self.false)
