use mathlib.Core.Path.{◌∙◌}
use Rattle.replay_scan.proofs.Rows.{timed-row}
use Rattle.replay_scan.proofs.record.Log.timed_clock.Goals as goal

pub returns : goal.returns
returns c = timed-row _ _ _ _ c.requires.2 c.requires.1 (c.from.ensures ∙ c.u32_at.ensures.is)
