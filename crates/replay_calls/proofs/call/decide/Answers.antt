use mathlib.Core.Path.{refl}
use Rattle.replay_calls.proofs.Deciding.{decide_full, decide_all, decide_room, decide_read, walked_again, left-whole}
use Rattle.replay_group.proofs.SweepLaws.{lent_again}
use Rattle.replay_calls.proofs.call.decide.Goals as goal

pub returns-then-room-all-clause-decides : goal.returns-then-room-all-clause-decides
returns-then-room-all-clause-decides c =
    let r = c.requires in
    decide_full r.0.ends c.sweep_all_seen-all.ensures.sweeps r.1.usable.ordered.within refl c.if-all-to.true c.if-room-all.true

pub returns-in-Some-clause-decides : goal.returns-in-Some-clause-decides
returns-in-Some-clause-decides c =
    let r = c.requires in
    rw c.in-Some.is (decide_all r.0.ends c.sweep_all_seen-all.ensures.sweeps r.1.usable.ordered.within refl c.if-all-to.true c.if-room-all.false)

pub returns-in-None-clause-decides : goal.returns-in-None-clause-decides
returns-in-None-clause-decides c =
    let r = c.requires in
    rw c.in-None.is (decide_all r.0.ends c.sweep_all_seen-all.ensures.sweeps r.1.usable.ordered.within refl c.if-all-to.true c.if-room-all.false)

pub returns-in-None-clause-left : goal.returns-in-None-clause-left
returns-in-None-clause-left c = left-whole c.sweep_all_seen-all.ensures.sweeps c.if-all-to.true

pub sweep_all_seen-right-requires : goal.sweep_all_seen-right-requires
sweep_all_seen-right-requires c =
    let r = c.requires in
    let k = c.sweep_all_seen-all.ensures.kept in
    (walked_again r.0 c.sweep_all_seen-all.ensures.sweeps, r.1, lent_again r.2 k.cells.room k.cells.pair k.late.room k.late.pair)

pub returns-then-room-right-clause-decides : goal.returns-then-room-right-clause-decides
returns-then-room-right-clause-decides c =
    let r = c.requires in
    decide_room r.0.ends c.sweep_all_seen-all.ensures.sweeps r.1.usable.ordered.within refl c.sweep_all_seen-right.ensures.sweeps c.if-all-to.false c.if-room-right.true

pub returns-clause-decides : goal.returns-clause-decides
returns-clause-decides c =
    let r = c.requires in
    decide_read r.0.ends c.sweep_all_seen-all.ensures.sweeps r.1.usable.ordered.within refl c.sweep_all_seen-right.ensures.sweeps c.if-all-to.false c.if-room-right.false
