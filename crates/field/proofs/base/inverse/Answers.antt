-- `field::base::inverse` meets its contract, by the law of the inverse.
use mathlib.Core.Path.{ap, ◌∙◌}
use Prim.Native.Nat.{ℕ}
use Rattle.field.specs.Base.{mul_p}
use Rattle.field.proofs.Inverse.{inverse_p_word}
use Rattle.field.proofs.base.inverse.Goals as goal

pub returns : goal.returns
returns c =
    let a = c.args.a in
    (c.inverse_or_zero.ensures, ap (λ (x : ℕ). mul_p a x) c.inverse_or_zero.ensures ∙ inverse_p_word a c.requires.0 c.requires.1)
