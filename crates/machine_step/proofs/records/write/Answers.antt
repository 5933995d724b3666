use Rattle.std.proofs.Common.{refl}
use Rattle.machine_step.proofs.RecordsLaws.{recorded_some, recorded-none}
use Rattle.machine_step.proofs.records.write.Goals as goal

pub write-requires : goal.write-requires
write-requires c = c.requires.room c.if-asked.true

pub returns-then-asked : goal.returns-then-asked
returns-then-asked c = recorded_some c.if-asked.true refl c.write.ensures

pub returns-else-asked : goal.returns-else-asked
returns-else-asked c = recorded-none c.if-asked.false
