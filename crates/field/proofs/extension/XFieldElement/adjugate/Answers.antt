-- `field::extension::XFieldElement::adjugate` meets its contract: its sums and differences of words are the coefficients of the adjugate.
use Rattle.field.proofs.Coefficients.{adjugate_is}
use Rattle.field.proofs.extension.XFieldElement.adjugate.Goals as goal

pub returns : goal.returns
returns c =
    rw (c.sub-2.ensures, c.neg.ensures, c.add-2.ensures, c.mul.ensures, c.sub.ensures, c.add.ensures, c.add-t.ensures, c.dot2.ensures, c.add-s.ensures, c.mul-cc.ensures, c.mul-bb.ensures, c.mul-ac.ensures)
    (adjugate_is c.args.self)
