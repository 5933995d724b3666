use Rattle.std.proofs.Common.{◌∙◌, rules}
use Rattle.machine_arithmetic.proofs.Bits.{both_digits}
use Rattle.machine_arithmetic.proofs.bitwise.fn.and.of_two.Goals as goal

pub returns : goal.returns
returns c = c.from.ensures ∙ both_digits 32 c.args.a c.args.b (search rules)
