use Rattle.std.proofs.Common.{◌∙◌, rules}
use Rattle.machine_arithmetic.proofs.Bits.{either_digits}
use Rattle.machine_arithmetic.proofs.bitwise.fn.xor.of_two.Goals as goal

pub returns : goal.returns
returns c = c.from.ensures ∙ either_digits 32 c.args.a c.args.b (search rules) (search rules)
