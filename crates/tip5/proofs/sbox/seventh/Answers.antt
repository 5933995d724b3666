use Rattle.field.specs.Base.{p}
use Rattle.field.proofs.Remainder.{rem, pow_one, pow-next}
use Rattle.tip5.proofs.sbox.seventh.Goals as goal

pub returns : goal.returns
returns c =
    let x = c.args.x in
    let e1 = pow_one p x in
    let e2 = rem p _ (pow-next p x 1 1 _ _ e1 e1 c.mul-x2.ensures) in
    let e3 = rem p _ (pow-next p x 2 1 _ _ e2 e1 c.mul-x3.ensures) in
    let e6 = rem p _ (pow-next p x 3 3 _ _ e3 e3 c.mul-x6.ensures) in
    pow-next p x 6 1 _ _ e6 e1 c.mul.ensures
