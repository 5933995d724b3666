use Rattle.machine_rows.proofs.RowLaws.{row_put, put-asked, put_unasked, taken_unasked}
use Rattle.std.proofs.Common.{arith}
use Rattle.machine_rows.proofs.processor_row.next_row.Goals as goal

pub returns-then-not-asked : goal.returns-then-not-asked
returns-then-not-asked c = (put_unasked c.if-not-asked.true _ _ _, taken_unasked c.if-not-asked.true)

pub returns : goal.returns
returns c = (
  put-asked c.if-not-asked.false (row_put _ _ _ _ _ c.requires.1 c.copy_from_slice.ensures.after (omega arith)),
  record { asked = λ _. c.write_row.ensures.own; alike = λ _. c.write_row.ensures.alike },
)
