use Rattle.machine.specs.HelperVariables.{opcode_parts}
use Rattle.machine_helpers.proofs.seen.Seen.skiz.Goals as goal

pub returns : goal.returns
unfolding opcode_parts
returns c = rw (c.inverse_or_zero.ensures, c.word.ensures.value, c.next_opcode-o.ensures)
