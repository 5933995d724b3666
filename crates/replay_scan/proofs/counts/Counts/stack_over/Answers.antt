use Rattle.replay_scan.proofs.ScanLaws.{over-first, over-way, over-many}
use Rattle.replay_scan.proofs.counts.Counts.stack_over.Goals as goal

pub returns-then-self-eq0 : goal.returns-then-self-eq0
returns-then-self-eq0 c = over-first _ _ _ c.if-self-eq0.true

pub returns-then-dir-self : goal.returns-then-dir-self
returns-then-dir-self c = over-way _ _ _ c.if-self-eq0.false c.if-dir-self.true

pub returns : goal.returns
returns c = over-many _ _ _ c.if-self-eq0.false c.if-dir-self.false
