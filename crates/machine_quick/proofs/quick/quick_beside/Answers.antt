use Rattle.std.proofs.Common.{◌∙◌, sym, arith}
use Rattle.machine_quick.proofs.QuickLaws.{quick_stands, quick_changing, quick_done}
use Rattle.machine_quick.proofs.quick.quick_beside.Goals as goal

pub place_b-requires : goal.place_b-requires
place_b-requires c =
    let s = c.requires.sound in
    record { pair = s.code.slots; words = s.code.arguments; depth = omega (arith, s.op_stack.used, s.op_stack.few) }

pub bounds-code-state : goal.bounds-code-state
bounds-code-state c = (quick_stands c.requires c.in_default.ensures).inside

pub hand_over-requires : goal.hand_over-requires
hand_over-requires c = rw c.look.ensures (quick_stands c.requires c.in_default.ensures)

pub act-requires : goal.act-requires
act-requires c = c.hand_over.ensures.reliable

pub change-requires : goal.change-requires
change-requires c = quick_changing c.requires c.in_default.ensures (rw c.look.ensures at c.hand_over.ensures.slot) (rw c.look.ensures at c.hand_over.ensures.shows) c.act.ensures c.in-Ok.is

pub returns-in-Ok : goal.returns-in-Ok
returns-in-Ok c =
    quick_done c.requires c.in_default.ensures (rw c.look.ensures at c.hand_over.ensures.slot) (rw c.look.ensures at c.hand_over.ensures.shows) c.act.ensures c.in-Ok.is c.change.result _ c.change.ensures

pub offset_bounds-code-state : goal.offset_bounds-code-state
offset_bounds-code-state c = omega (arith, (quick_stands c.requires c.in_default.ensures).inside, c.requires.sound.code.slots_few)
