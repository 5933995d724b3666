use mathlib.Core.Path.{◌∙◌}
use Rattle.replay_scan.proofs.ScanLaws.{counts_same, counts_anew}
use Rattle.replay_scan.proofs.counts.Counts.at.Goals as goal

pub returns-then-self-clock : goal.returns-then-self-clock
returns-then-self-clock c = counts_same c.args.self _ c.if-self-clock.true

pub returns : goal.returns
returns c = c.none.ensures ∙ counts_anew c.args.self _ c.if-self-clock.false
