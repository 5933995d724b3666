use borrow.Author.Rules.{rules}
use mathlib.Core.Path.{◌∙◌}
use Rattle.replay_scan.proofs.Rows.{ram-row}
use Rattle.replay_scan.proofs.record.Log.ram_fields.Goals as goal

pub returns : goal.returns
returns c = record { is = ram-row _ _ _ _ _ _ (c.from.ensures ∙ c.u32_at.ensures.is) c.u64_at.ensures.is c.u64_at-2.ensures.is c.from-2.ensures; clock = search rules; place = search rules; value = search rules }
