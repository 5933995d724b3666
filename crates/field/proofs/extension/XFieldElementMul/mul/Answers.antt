-- `field::extension::XFieldElementMul::mul` meets its contract: its sums and differences of words are the coefficients of the product.
use Rattle.field.proofs.Coefficients.{product_is}
use Rattle.field.proofs.extension.XFieldElementMul.mul.Goals as goal

pub returns : goal.returns
returns c =
    rw (c.add-2.ensures, c.sub-2.ensures, c.add.ensures, c.sub.ensures, c.mul-d4.ensures, c.dot2-d3.ensures, c.add-d2.ensures, c.mul.ensures, c.dot2.ensures, c.dot2-d1.ensures, c.mul-d0.ensures)
    (product_is c.args.self c.args.y)
