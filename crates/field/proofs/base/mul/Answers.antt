-- `field::base::mul` meets its contract: the two halves of the product, reduced.
use mathlib.Core.Path.{◌∙◌, ap}
use Prim.Native.Nat.{ℕ, ◌+◌, ◌*◌, ◌^◌, ◌%◌}
use native.Mathlib.Nat.{div-add-mod'}
use Rattle.field.specs.Base.{p}
use Rattle.field.proofs.base.mul.Goals as goal

pub returns : goal.returns
returns c =
    c.reduce.ensures ∙ (λ i. (c.mul_hi.ensures i * 2 ^ 64 + c.mul_lo.ensures i) % p) ∙ ap (λ (x : ℕ). x % p) (div-add-mod' _ (2 ^ 64))
