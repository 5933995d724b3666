use native.Mathlib.Omega.{arith}
use Rattle.machine.proofs.Rows.{size_small}
use Rattle.machine_step.proofs.advance.next.Goals as goal

pub returns-in-Onward : goal.returns-in-Onward
returns-in-Onward c = rw (c.in-Onward.is, c.size.ensures)

pub returns-in-To : goal.returns-in-To
returns-in-To c = rw c.in-To.is

pub overflow_add-result : goal.overflow_add-result
overflow_add-result c = omega (arith, c.requires, c.size.ensures, size_small c.args.opcode)
