use Rattle.std.proofs.Common.{rules, ◌∙◌}
use Rattle.machine_arithmetic.proofs.Bits.{ones_digits}
use Rattle.machine_arithmetic.proofs.bitwise.ones.Goals as goal

pub returns : goal.returns
returns c = c.from.ensures ∙ ones_digits 32 c.args.a (search rules)
