use mathlib.Core.Path.{◌∙◌}
use Rattle.replay_table.specs.LentView.{seen_cells}
use Rattle.replay_table.proofs.TableLaws.{seen_here, seen-not}
use Rattle.replay_table.proofs.table.SeenTable.word_at.Goals as goal

pub returns-in-Ok : goal.returns-in-Ok
returns-in-Ok c =
    let a = c.args in
    seen_here (seen_cells a.self.now.cells) _ a.address _ _ (c.in-Ok.ensures.is a.self.now.cells.values.now)

pub returns-in-Err : goal.returns-in-Err
returns-in-Err c =
    let a = c.args in
    c.late_word.ensures ∙ seen-not (seen_cells a.self.now.cells) _ a.address _ _ (c.in-Err.ensures.is a.self.now.cells.values.now)
