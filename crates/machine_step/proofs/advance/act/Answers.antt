use Rattle.std.proofs.Common.{ap, arith}
use Rattle.machine.specs.Machine.{Memory}
use Rattle.machine_step.proofs.AdvanceLaws.{acting-settling, acting-roomy, acting-advanced}
use Rattle.machine_step.proofs.advance.act.Goals as goal

pub next-pointer-requires : goal.next-pointer-requires
next-pointer-requires c = omega (arith, c.requires.inside, c.requires.standing.sound.code.slots_few)

pub settle-moved-requires : goal.settle-moved-requires
settle-moved-requires c = acting-settling c.requires

pub write-bytes-requires : goal.write-bytes-requires
write-bytes-requires c =
    rw (ap (λ (m : Memory). m.op_stack) c.look.ensures)
    (acting-roomy c.requires c.settle-moved.result.answer c.next-pointer.ensures c.asked-asked.ensures (c.settle-moved.ensures.settled.is _))

pub returns-clause-advanced : goal.returns-clause-advanced
returns-clause-advanced c =
    acting-advanced c.requires c.settle-moved.result.answer c.next-pointer.ensures c.asked-asked.ensures (c.settle-moved.ensures.settled.is _)
    (rw (ap (λ (m : Memory). m.op_stack) c.look.ensures) at c.write-bytes.ensures)
