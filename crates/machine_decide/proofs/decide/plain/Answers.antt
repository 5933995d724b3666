use Rattle.machine_decide.proofs.DecideLaws.{shows_alike}
use Rattle.machine_decide.proofs.decide.plain.Goals as goal

pub act-requires-clause-reliable : goal.act-requires-clause-reliable
act-requires-clause-reliable c = c.hand_over-h.ensures.reliable

pub act-requires-clause-plain : goal.act-requires-clause-plain
act-requires-clause-plain c = rw (← c.hand_over-h.ensures.slot.opcode) c.requires.plain

pub returns : goal.returns
returns c =
    let k = c.hand_over-h.ensures.slot in
    record { is = λ d o. rw (k.opcode, k.argument) (c.act.ensures.is _ (shows_alike _ _ d o c.hand_over-h.ensures.shows)) }
