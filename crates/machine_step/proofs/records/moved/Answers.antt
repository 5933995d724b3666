use Rattle.machine_step.proofs.RecordsLaws.{moved_some, moved_none}
use Rattle.machine_step.proofs.records.moved.Goals as goal

pub log_depth-requires : goal.log_depth-requires
log_depth-requires c = (c.requires.room c.if-recording.true, c.requires.deep c.if-recording.true)

pub returns-then-recording : goal.returns-then-recording
returns-then-recording c = moved_some c.if-recording.true c.log_depth.ensures

pub returns-else-recording : goal.returns-else-recording
returns-else-recording c = moved_none c.if-recording.false
