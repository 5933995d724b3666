use Rattle.std.proofs.Common.{◌∙◌, sym, arith}
use Rattle.machine_step.proofs.AdvanceLaws.{refused_decision, refused_advanced, acting_plain}
use Rattle.machine_step.proofs.advance.advance_plain.Goals as goal

pub plain-decided-requires-clause-on : goal.plain-decided-requires-clause-on
plain-decided-requires-clause-on c = rw c.look.ensures (record { digests = _; output = _; sound = c.requires.standing.sound; inside = c.requires.inside })

pub plain-decided-requires-clause-plain : goal.plain-decided-requires-clause-plain
plain-decided-requires-clause-plain c = c.requires.way

pub act-requires : goal.act-requires
act-requires c = acting_plain c.requires _ ((rw c.look.ensures at c.in-Ok.ensures).is _ _)

pub refuse-requires : goal.refuse-requires
refuse-requires c = omega (arith, c.requires.standing.sound.deep)

pub returns-in-Err-clause-advanced : goal.returns-in-Err-clause-advanced
returns-in-Err-clause-advanced c =
    refused_advanced _ (c.requires.decides ∙ sym ((rw c.look.ensures at c.in-Err.ensures).is _ _) ∙ refused_decision _) c.refuse.ensures.refused
