-- `field::base::inverse_or_zero` meets its contract: each power of a in the chain has the exponent that its name tells.
use mathlib.Core.Path.{◌≡◌, sym, ◌∙◌}
use Prim.Native.Nat.{◌^◌}
use native.Mathlib.Nat.{mod-eq_of_lt}
use Rattle.field.specs.Base.{p, pow_p}
use Rattle.field.proofs.Remainder.{pow_one}
use Rattle.field.proofs.Power.{joined, raised}
use Rattle.field.proofs.base.inverse_or_zero.Goals as goal

pub returns : goal.returns
returns c =
    let x = c.args.a in
    let e1 : x ≡ pow_p x 1 = sym (mod-eq_of_lt c.requires) ∙ pow_one p x in
    let v2 = joined x 1 1 e1 e1 c.mul.ensures in
    let e2 = joined x 2 1 v2 e1 c.mul-e2.ensures in
    let v6 = joined x 3 3 e2 e2 c.mul-2.ensures in
    let e3 = joined x 6 1 v6 e1 c.mul-e3.ensures in
    let v3 = raised x 7 (2 ^ 3) e3 c.squared.ensures in
    let e6 = joined x 56 7 v3 e3 c.mul-e6.ensures in
    let w6 = raised x 63 (2 ^ 6) e6 c.squared-2.ensures in
    let e12 = joined x 4032 63 w6 e6 c.mul-e12.ensures in
    let w12 = raised x 4095 (2 ^ 12) e12 c.squared-3.ensures in
    let e24 = joined x 16773120 4095 w12 e12 c.mul-e24.ensures in
    let w24 = raised x 16777215 (2 ^ 6) e24 c.squared-4.ensures in
    let e30 = joined x 1073741760 63 w24 e6 c.mul-e30.ensures in
    let w30 = joined x 1073741823 1073741823 e30 e30 c.mul-3.ensures in
    let e31 = joined x 2147483646 1 w30 e1 c.mul-e31.ensures in
    let e31-0 = joined x 2147483647 2147483647 e31 e31 c.mul-e31_0.ensures in
    let e32 = joined x 4294967294 1 e31-0 e1 c.mul-e32.ensures in
    let w32 = raised x 4294967294 (2 ^ 32) e31-0 c.squared-5.ensures in
    joined x 18446744065119617024 4294967295 w32 e32 c.mul-4.ensures
