use Rattle.machine.specs.Arithmetic.{xb_mul_of}
use Rattle.machine_arithmetic.proofs.arithmetic.xb_mul.Goals as goal

pub returns : goal.returns
unfolding xb_mul_of
returns c = rw (c.put.ensures, c.scale.ensures, c.element.ensures.is, c.word.ensures.value)
