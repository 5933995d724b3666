use Rattle.std.proofs.Common.{eq-eqb}
use borrow.Author.Tests.{ne_eqb}
use Rattle.machine.specs.Control.{recurse_or_return_of}
use Rattle.machine_effects.proofs.control.recurse_or_return.Goals as goal

pub returns-then-st : goal.returns-then-st
unfolding recurse_or_return_of
returns-then-st c = rw (c.return_from_call.ensures, ← c.st.ensures, ← c.st-2.ensures, eq-eqb _ _ c.if-st.true)

pub returns-else-st : goal.returns-else-st
unfolding recurse_or_return_of
returns-else-st c = rw (c.recurse.ensures, ← c.st.ensures, ← c.st-2.ensures, ne_eqb _ _ c.if-st.false)
