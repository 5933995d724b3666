use borrow.Author.Rules.{rules}
use native.Mathlib.Omega.{arith}
use mathlib.Core.Path.{◌∙◌}
use Rattle.replay_scan.proofs.Numbers.{from_four}
use Rattle.replay_scan.proofs.record.u32_at.Goals as goal

pub returns : goal.returns
returns c = record { is = c.from_le_bytes.ensures ∙ from_four _ _ (omega arith); small = search rules }
