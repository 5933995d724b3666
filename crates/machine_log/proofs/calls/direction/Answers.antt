use borrow.Author.Tests.{lt-ltb, le-ltb}
use Rattle.machine_log.proofs.calls.direction.Goals as goal

pub returns-then-depth-after : goal.returns-then-depth-after
returns-then-depth-after c = rw (lt-ltb _ _ c.if-depth-after.true)

pub returns-else-depth-after : goal.returns-else-depth-after
returns-else-depth-after c = rw (le-ltb _ _ c.if-depth-after.false)
