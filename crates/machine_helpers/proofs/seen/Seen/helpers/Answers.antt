use Rattle.machine_helpers.proofs.HelpersLaws.{slot_helpers, outside_helpers}
use Rattle.machine_helpers.proofs.seen.Seen.helpers.Goals as goal

pub returns-then-at-self : goal.returns-then-at-self
returns-then-at-self c =
    record { is = λ m h. slot_helpers m h.pointer h.opcodes h.arguments c.if-at-self.true (c.of_slot.ensures.is m h) }

pub returns-else-at-self : goal.returns-else-at-self
returns-else-at-self c =
    record { is = λ m h. outside_helpers m h.pointer h.opcodes c.if-at-self.false }
