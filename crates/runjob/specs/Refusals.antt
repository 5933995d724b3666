-- The number of a job that is not opened.
use Rattle.std.specs.Prelude.{ℕ}
use Rattle.machine.specs.Refusal.{refusal_of}
use Rattle.runjob.specs.declared.refusals.NotOpened.{NotOpened}
use Rattle.runjob.specs.declared.refusals.NotOpened.TheVariants.{Broken, Refused}

abbrev pub number_of : NotOpened → ℕ
number_of (Broken b) = 50
number_of (Refused e) = (refusal_of e).number
