-- `field::base::squared` meets its contract: after i turns r is x to the 2^i.
use Rattle.std.proofs.Common.{◌≡◌, ◌^◌}
use Rattle.field.specs.Base.{pow_p}
use Rattle.field.proofs.base.squared.Given as goal

abbrev pub invariant-loop : goal.invariant-loop
invariant-loop l = l.r ≡ pow_p l.x (2 ^ l.counter)
