use Rattle.std.proofs.Common.{◌≡◌}
use Rattle.choices.specs.Choice.{cond}
use Rattle.machine.specs.Words.{zeros_from}
use Rattle.machine_place_a.proofs.checks.check_zeros.Given as goal

-- whether all words so far are 0
abbrev pub invariant-loop-word : goal.invariant-loop-word
invariant-loop-word l = cond l.good 0 5 ≡ zeros_from l.piece 0 l.word-index
