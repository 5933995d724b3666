use Rattle.field.specs.Extension.{norm_x, inverse_x}
use Rattle.field.proofs.ExtensionRing.{mul_x-words}
use Rattle.field.proofs.extension.XFieldElement.inverse_or_zero.Goals as goal

pub inverse_or_zero-requires : goal.inverse_or_zero-requires
inverse_or_zero-requires c = rw c.constant_of_product.ensures (mul_x-words _ _).low0

pub returns : goal.returns
unfolding inverse_x norm_x
returns c = rw (c.scale.ensures, c.inverse_or_zero.ensures, c.constant_of_product.ensures, c.adjugate-k.ensures)
