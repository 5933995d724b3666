-- What the code counts, and its 45.
use Rattle.std.specs.Prelude.{ℕ, Bool}
use Rattle.choices.specs.Choice.{cond}
use Rattle.replay.specs.Replay.{Tally, tally}
use Rattle.replay_scan.specs.declared.counts.Counts.{Counts}

abbrev pub tally_of : Counts → Tally
tally_of n = tally n.last n.way n.stacks n.rams

-- the number of a record that is one too many
abbrev pub number45 : Bool → ℕ
number45 over = cond over 45 0
