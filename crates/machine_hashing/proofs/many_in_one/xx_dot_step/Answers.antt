use Rattle.field.proofs.ExtensionRing.{mul_x-words}
use Rattle.machine.specs.ManyInOne.{xx_dot_step_of}
use Rattle.machine_hashing.proofs.many_in_one.xx_dot_step.Goals as goal

pub add-z-requires : goal.add-z-requires
add-z-requires c = (c.element.ensures.words, rw c.mul.ensures (mul_x-words _ _))

pub returns : goal.returns
unfolding xx_dot_step_of
returns c =
    rw (c.put_xx.ensures, c.add-z.ensures, c.mul.ensures, c.element.ensures.is, c.element_at-y.ensures, c.element_at-x.ensures, c.word-l.ensures.value, c.word-r.ensures.value)
