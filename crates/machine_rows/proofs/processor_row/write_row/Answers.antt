use Rattle.std.proofs.Common.{ap, sym, ◌∙◌}
use Rattle.machine.specs.Machine.{machine}
use Rattle.machine.specs.Lent.{code_of, seen}
use Rattle.machine.specs.ProcessorRow.{jump_words}
use Rattle.machine_rows.proofs.RowLaws.{jump_is, row_is, row_alike_is}
use Rattle.machine_rows.proofs.processor_row.write_row.Goals as goal

pub returns-clause-own : goal.returns-clause-own
returns-clause-own c =
    let a = c.args in
    let m = machine a.state.now (code_of a.code.now) (seen a.memory.now) in
    row_is m c.current_instruction.ensures c.next_instruction_or_argument.ensures (c.entry_or_zeros-entry.ensures ∙ ap jump_words (c.last_entry.ensures ∙ sym (jump_is m))) c.of-top.ensures c.helpers-h.ensures.own c.write_columns.ensures

pub returns-clause-alike : goal.returns-clause-alike
returns-clause-alike c =
    record { is = λ s u v w e. row_alike_is _ s u v w e (returns-clause-own c) c.helpers-h.ensures.own c.helpers-h.ensures.alike }
