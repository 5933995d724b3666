use Rattle.std.proofs.Common.{refl}
use Rattle.machine_step.proofs.records.besides.Goals as goal

pub returns-in-Reset : goal.returns-in-Reset
returns-in-Reset c = record { is = λ cs. rw c.in-Reset.is }

pub returns-in-First : goal.returns-in-First
returns-in-First c = record { is = λ cs. rw c.in-First.is }

pub returns-in-Last : goal.returns-in-Last
returns-in-Last c = record { is = λ cs. rw c.in-Last.is }
