use Rattle.std.proofs.Common.{rules, arith}
use Rattle.machine_arithmetic.proofs.Bits.{highest_digits}
use Rattle.machine_arithmetic.proofs.bitwise.highest.Goals as goal

pub returns : goal.returns
returns c =
    let e = highest_digits 31 c.args.a c.requires (search rules) in
    omega arith
