-- `field::extension::XFieldElement::inverse` meets its contract, by the law of the inverse.
use mathlib.Core.Path.{ap, ◌∙◌}
use Rattle.field.specs.Extension.{mul_x}
use Rattle.field.proofs.ExtensionInverse.{inverse_x_some}
use Rattle.field.proofs.extension.XFieldElement.inverse.Goals as goal

pub returns : goal.returns
returns c =
    let x = c.args.self in
    (c.inverse_or_zero.ensures, ap (mul_x x) c.inverse_or_zero.ensures ∙ inverse_x_some x c.requires.0 c.requires.1)
