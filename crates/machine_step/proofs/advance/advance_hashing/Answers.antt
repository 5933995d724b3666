use Rattle.std.proofs.Common.{◌∙◌, sym, arith}
use Rattle.machine_step.proofs.AdvanceLaws.{refused_hash, refused_advanced, acting_hash}
use Rattle.machine_step.proofs.advance.advance_hashing.Goals as goal

pub hashing-decided-requires-clause-on : goal.hashing-decided-requires-clause-on
hashing-decided-requires-clause-on c = rw c.look.ensures (record { arguments = _; public = _; secret = _; origins = _; destinations = _; output = _; sound = c.requires.standing.sound; inside = c.requires.inside })

pub hashing-decided-requires-clause-hashing : goal.hashing-decided-requires-clause-hashing
hashing-decided-requires-clause-hashing c = c.requires.way

pub act-requires : goal.act-requires
act-requires c = acting_hash c.requires _ ((rw c.look.ensures at c.in-Ok.ensures).is _ _ _ _ _ _ _) c.besides-besides.ensures c.sponge_behind-sponge.ensures

pub refuse-requires : goal.refuse-requires
refuse-requires c = omega (arith, c.requires.standing.sound.deep)

pub returns-in-Err-clause-advanced : goal.returns-in-Err-clause-advanced
returns-in-Err-clause-advanced c =
    refused_advanced _ (c.requires.decides ∙ sym ((rw c.look.ensures at c.in-Err.ensures).is _ _ _ _ _ _ _) ∙ refused_hash _) c.refuse.ensures.refused
