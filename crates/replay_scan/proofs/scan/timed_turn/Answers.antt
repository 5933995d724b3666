use Rattle.replay_scan.proofs.ScanLaws.{timed-late, timed_41, timed-goes}
use Rattle.replay_scan.proofs.scan.timed_turn.Goals as goal

pub returns-then-clock-t : goal.returns-then-clock-t
returns-then-clock-t c = timed-late _ _ _ _ c.if-clock-t.true

pub returns-then-t-counts : goal.returns-then-t-counts
returns-then-t-counts c = timed_41 _ _ _ _ c.if-clock-t.false c.if-t-counts.true

pub returns : goal.returns
returns c = timed-goes _ _ _ _ c.if-clock-t.false c.if-t-counts.false _ c.at.ensures
