use mathlib.Core.Path.{◌∙◌}
use Rattle.replay_table.specs.LentView.{seen_cells}
use Rattle.replay_table.proofs.TableLaws.{word_here, word_not}
use Rattle.replay_table.proofs.table.SeenTable.late_word.Goals as goal

pub returns-in-Ok : goal.returns-in-Ok
returns-in-Ok c =
    let a = c.args in
    word_here (seen_cells a.self.now.late) a.address _ _ (c.in-Ok.ensures.is a.self.now.late.values.now)

pub returns-in-Err : goal.returns-in-Err
returns-in-Err c =
    let a = c.args in
    c.read.ensures ∙ word_not (seen_cells a.self.now.late) a.address _ _ (c.in-Err.ensures.is a.self.now.late.values.now)
