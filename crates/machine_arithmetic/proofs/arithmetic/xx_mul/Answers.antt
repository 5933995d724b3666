use Rattle.machine.specs.Arithmetic.{xx_mul_of}
use Rattle.machine_arithmetic.proofs.arithmetic.xx_mul.Goals as goal

pub returns : goal.returns
unfolding xx_mul_of
returns c = rw (c.put.ensures, c.mul.ensures, c.element.ensures.is, c.element-2.ensures.is)
