use Rattle.field.proofs.ExtensionRing.{scale_x-words}
use Rattle.machine.specs.ManyInOne.{xb_dot_step_of}
use Rattle.machine_hashing.proofs.many_in_one.xb_dot_step.Goals as goal

pub add-z-requires : goal.add-z-requires
add-z-requires c = (c.element.ensures.words, rw c.scale.ensures (scale_x-words _ _))

pub returns : goal.returns
unfolding xb_dot_step_of
returns c =
    rw (c.put_xb.ensures, c.add-z.ensures, c.scale.ensures, c.element.ensures.is, c.element_at-x.ensures, c.read-b.ensures, c.word-l.ensures.value, c.word-r.ensures.value)
