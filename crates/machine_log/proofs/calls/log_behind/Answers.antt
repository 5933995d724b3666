use Rattle.std.proofs.Common.{refl}
use Rattle.machine_log.proofs.Logged.{wrote_none, wrote_as, no_calls, tip5_is}
use Rattle.machine_log.proofs.calls.log_behind.Goals as goal

pub returns-in-Last : goal.returns-in-Last
returns-in-Last c = rw c.in-Last.is (wrote_as c.log_tip5.ensures (tip5_is _ _ _ _) refl)

pub returns-in-Nothing : goal.returns-in-Nothing
returns-in-Nothing c = rw c.in-Nothing.is (wrote_none _ _ _ _ _ (no_calls _ _) refl)

pub returns-in-Reset : goal.returns-in-Reset
returns-in-Reset c = rw c.in-Reset.is (wrote_none _ _ _ _ _ (no_calls _ _) refl)

pub returns-in-First : goal.returns-in-First
returns-in-First c = rw c.in-First.is (wrote_none _ _ _ _ _ (no_calls _ _) refl)
