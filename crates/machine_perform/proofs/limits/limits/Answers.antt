use Rattle.std.proofs.Common.{◌∙◌}
use Rattle.machine.specs.Lent.{seen}
use Rattle.machine_perform.proofs.LimitsLaws.{limits_is}
use Rattle.machine_perform.proofs.limits.limits.Goals as goal

pub returns : goal.returns
returns c =
    let a = c.args in
    record { is = λ k. c.first_full.ensures ∙ limits_is a.state.now a.effect.now (seen a.memory.now) k }
