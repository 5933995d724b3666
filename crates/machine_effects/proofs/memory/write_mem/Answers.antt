use Rattle.std.proofs.Common.{◌∙◌}
use Rattle.machine.specs.Memory.{write_mem_of}
use Rattle.machine.proofs.Words.{words_get_d}
use Rattle.machine_effects.proofs.Effects.{acts_as}
use Rattle.machine_effects.proofs.memory.write_mem.Goals as goal

pub write_row-next-requires : goal.write_row-next-requires
write_row-next-requires c = rw c.st.ensures (words_get_d 15 c.requires.0, c.requires.1)

pub returns : goal.returns
unfolding write_mem_of
returns c =
    acts_as _ c.puts_ram.ensures ∙ rw (c.of.ensures.words, c.write_row-next.ensures.writes, c.write_row-next.ensures.after, c.st.ensures)
