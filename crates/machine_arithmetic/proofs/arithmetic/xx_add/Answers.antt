use Rattle.machine.specs.Arithmetic.{xx_add_of}
use Rattle.machine_arithmetic.proofs.arithmetic.xx_add.Goals as goal

pub returns : goal.returns
unfolding xx_add_of
returns c = rw (c.put.ensures, c.add.ensures, c.element.ensures.is, c.element-2.ensures.is)
