use Rattle.std.proofs.Common.{◌∙◌, sym, ap, arith}
use Rattle.machine.specs.Machine.{Memory}
use Rattle.machine_steps.proofs.StepsLaws.{quick_taken, quick_room, quick_clock, quick_stepped}
use Rattle.machine_steps.proofs.steps.step_at.Goals as goal

pub quick_at-requires : goal.quick_at-requires
quick_at-requires c = record { digests = _; output = _; sound = c.requires.sound; on = c.requires.on }

pub moved-next-requires : goal.moved-next-requires
moved-next-requires c = rw (ap (λ (m : Memory). m.op_stack) c.look.ensures) (quick_room c.requires (quick_taken c.requires c.in-Some.ensures.quicked))

pub overflow_add-now : goal.overflow_add-now
overflow_add-now c = omega (arith, quick_clock c.requires (quick_taken c.requires c.in-Some.ensures.quicked))

pub returns-in-Some-clause-stepped : goal.returns-in-Some-clause-stepped
returns-in-Some-clause-stepped c =
    quick_stepped c.requires (quick_taken c.requires c.in-Some.ensures.quicked) (rw (ap (λ (m : Memory). m.op_stack) c.look.ensures) at c.moved-next.ensures)

pub returns-clause-stepped : goal.returns-clause-stepped
returns-clause-stepped c = rw c.in_default.ensures.quicked at c.advance_at.ensures.stepped
