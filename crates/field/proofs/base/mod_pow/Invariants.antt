-- `field::base::mod_pow` meets its contract: at each turn acc * b ^ k is base ^ exponent.
use Rattle.field.specs.Base.{p}
use Prim.Native.Nat.{◌*◌, ◌%◌, ◌^◌, ◌<◌}
use mathlib.Core.Path.{◌≡◌}
use Rattle.field.proofs.base.mod_pow.Given as goal

abbrev pub invariant-loop-k : goal.invariant-loop-k
invariant-loop-k l = (l.acc < p) × ((l.acc * l.b ^ l.k) % p ≡ (l.base ^ l.exponent) % p)

abbrev pub decreases-loop-k : goal.decreases-loop-k
decreases-loop-k l = l.k
