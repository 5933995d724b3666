use Rattle.std.proofs.Common.{arith}
use Rattle.machine_perform.proofs.limits.first_full.Goals as goal

pub invariant_of-ram : goal.invariant_of-ram
invariant_of-ram c = record { usable = record { ordered = c.requires.ordered; values = omega (arith, c.requires.ordered.within, c.requires.pair) } }
