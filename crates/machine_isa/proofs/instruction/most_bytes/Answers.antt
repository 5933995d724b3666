use borrow.Author.Tests.{eq-eqb, ne_eqb}
use Rattle.machine.specs.Lengths.{clock_bytes, most_bytes}
use Rattle.machine_isa.proofs.instruction.most_bytes.Goals as goal

pub returns-then-revision-eq2 : goal.returns-then-revision-eq2
unfolding most_bytes clock_bytes
returns-then-revision-eq2 c = simp (eq-eqb _ _ c.if-revision-eq2.true)

pub returns-else-revision-eq2 : goal.returns-else-revision-eq2
unfolding most_bytes clock_bytes
returns-else-revision-eq2 c = simp (ne_eqb _ _ c.if-revision-eq2.false)
