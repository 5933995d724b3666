use Rattle.machine_rows.proofs.RowLaws.{put_unasked, taken_unasked}
use Rattle.machine_steps.proofs.steps.put_row.Goals as goal

pub returns-then-not-asked : goal.returns-then-not-asked
returns-then-not-asked c = (put_unasked c.if-not-asked.true _ _ _, taken_unasked c.if-not-asked.true)
