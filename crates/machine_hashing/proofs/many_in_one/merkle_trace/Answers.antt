use Rattle.machine.specs.Hashing.{from_top}
use Rattle.machine_hashing.proofs.many_in_one.merkle_trace.Goals as goal

pub returns : goal.returns
unfolding from_top
returns c = rw (c.trace.ensures.is, c.children.ensures, c.st.ensures, c.top_first-own.ensures)
