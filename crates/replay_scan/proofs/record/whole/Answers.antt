use borrow.Author.Tests.{lt-ltb, le-ltb}
use Rattle.replay_scan.specs.RecordView.{whole_head}
use Rattle.replay_scan.proofs.record.whole.Goals as goal

pub returns-then-left-size : goal.returns-then-left-size
unfolding whole_head
returns-then-left-size c = rw (lt-ltb _ _ c.if-left-size.true)

pub returns : goal.returns
unfolding whole_head
returns c = rw (le-ltb _ _ c.if-left-size.false)
