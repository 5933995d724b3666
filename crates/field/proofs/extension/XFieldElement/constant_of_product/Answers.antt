use Rattle.field.proofs.Coefficients.{constant_is}
use Rattle.field.proofs.extension.XFieldElement.constant_of_product.Goals as goal

pub returns : goal.returns
returns c = rw (c.sub.ensures, c.dot2.ensures, c.mul.ensures) (constant_is c.args.self c.args.y)
