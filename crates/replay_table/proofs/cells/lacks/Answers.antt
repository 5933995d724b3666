use Rattle.replay_table.proofs.MergeLaws.{lacks-not, lacks_one}
use Rattle.replay_table.proofs.cells.lacks.Goals as goal

pub returns-in-Ok : goal.returns-in-Ok
returns-in-Ok c = lacks-not _ _ _ _ c.in-Ok.ensures

pub returns-in-Err : goal.returns-in-Err
returns-in-Err c = lacks_one _ _ _ _ c.in-Err.ensures
