use borrow.Author.Rules.{rules}
use Rattle.std.specs.Prelude.{Ok, Err}
use Rattle.machine_ram.specs.LentCells.{cells_of_mut}
use Rattle.replay_calls.specs.ReplayView.{replayed_by}
use Rattle.exports_calls.proofs.ReplayCallLaws.{replay_misfits, replay_called}
use Rattle.exports_calls.proofs.replay_call.replay_call.Goals as goal

pub returns-then-rebuilt-ne3 : goal.returns-then-rebuilt-ne3
returns-then-rebuilt-ne3 c = replay_misfits _ _ _ _ _ _ c.if-rebuilt-ne3.true

pub returns-in-Ok : goal.returns-in-Ok
returns-in-Ok c =
    replay_called _ _ _ _ _ _ (replayed_by (Ok c.in-Ok.depth) c.replay.new.words (cells_of_mut c.replay.new.cells)) _ _ _ c.if-rebuilt-ne3.false c.in-Ok.ensures.replayed c.write_rebuilt.ensures (search rules) (search rules)

pub returns-in-Err : goal.returns-in-Err
returns-in-Err c =
    let n = c.number-number.ensures in
    rw n (replay_called _ _ _ _ _ _ (replayed_by (Err c.in-Err.refusal) c.replay.new.words (cells_of_mut c.replay.new.cells)) _ _ _ c.if-rebuilt-ne3.false c.in-Err.ensures.replayed (rw n at c.write_rebuilt-in-Err.ensures) (search rules) (search rules))
