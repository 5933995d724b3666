use borrow.Author.Tests.{not-true}
use Rattle.replay_calls.proofs.QuietLaws.{rebuilt-quiet}
use Rattle.replay_calls.proofs.call.by_table.Goals as goal

pub returns-in-Some-clause-rebuilds : goal.returns-in-Some-clause-rebuilds
returns-in-Some-clause-rebuilds c = rw c.in-Some.is (rebuilt-quiet c.requires.0 c.requires.1 (not-true _ c.if-not-scan.true))

pub returns-in-None-clause-rebuilds : goal.returns-in-None-clause-rebuilds
returns-in-None-clause-rebuilds c = rw c.in-None.is (rebuilt-quiet c.requires.0 c.requires.1 (not-true _ c.if-not-scan.true))
