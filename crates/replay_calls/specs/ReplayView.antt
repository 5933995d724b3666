-- What the call gives, and the slices behind it.
use Rattle.std.specs.Prelude.{ℕ, List, Result, Ok, Err}
use Rattle.machine.specs.Ram.{Cells}
use Rattle.replay.specs.Replay.{Replayed}
use Rattle.replay_calls.specs.declared.refusal.Refusal.{Refusal}
use Rattle.replay_calls.specs.RefusalView.{refusal_number}

-- the depth and the cells, or the number, and 0 and 0
abbrev pub replayed_by : Result ℕ Refusal → List ℕ → Cells → Replayed
replayed_by (Ok depth) s c = record { number = 0; depth = depth; count = c.count; words = s; addresses = c.addresses; values = c.values }
replayed_by (Err e) s c = record { number = refusal_number e; depth = 0; count = 0; words = s; addresses = c.addresses; values = c.values }
