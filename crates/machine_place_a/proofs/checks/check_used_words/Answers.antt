use Rattle.std.proofs.Common.{◌∙◌}
use Rattle.machine_place_a.proofs.ChecksLaws.{words_used}
use Rattle.machine_place_a.proofs.checks.check_used_words.Goals as goal

pub returns : goal.returns
returns c = c.check_words.ensures ∙ words_used _ _ _ c.min.ensures
