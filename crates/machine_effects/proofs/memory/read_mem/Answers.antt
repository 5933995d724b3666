use Rattle.std.proofs.Common.{◌≡◌, length, refl, ◌∙◌, rules, arith}
use Rattle.machine.specs.Memory.{read_mem_of}
use Rattle.machine_effects.proofs.Effects.{acts_as}
use Rattle.machine_effects.proofs.MemoryView.{by_down, words_end}
use Rattle.machine_effects.proofs.memory.read_mem.Goals as goal

pub returns : goal.returns
unfolding read_mem_of
returns c =
    let n = c.args.n in
    let row = c.read_row-row in
    let l : length row.result.words ≡ 16 = search rules in
    acts_as _ c.puts_ram.ensures
    ∙ rw (
      row.ensures.reads,
      words_end row.result.words row.result.next n (omega arith) row.ensures.words,
      row.ensures.next _ refl ∙ by_down _ n,
      c.st.ensures,
    )
