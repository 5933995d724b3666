use Rattle.std.proofs.Common.{sym, ◌∙◌, arith}
use Rattle.std.proofs.Math.Nat.{mod-eq_of_lt}
use Rattle.field.specs.Base.{p}
use Rattle.field.proofs.Remainder.{pow_one}
use Rattle.field.proofs.Power.{doubled, raised_all}
use Rattle.field.proofs.base.squared.Goals as goal

pub loop-init : goal.loop-init
loop-init c = sym (mod-eq_of_lt c.requires) ∙ pow_one p c.args.x

pub loop-preserved : goal.loop-preserved
loop-preserved c = doubled c.args.x c.loop.counter c.loop.invariant c.mul-r.ensures

pub returns : goal.returns
returns c = raised_all c.args.x c.loop.counter c.args.n c.loop.invariant (omega arith)
