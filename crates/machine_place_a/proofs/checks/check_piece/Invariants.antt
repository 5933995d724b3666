use Rattle.std.proofs.Common.{◌≡◌}
use Rattle.choices.specs.Choice.{cond}
use Rattle.machine.specs.Words.{words_of}
use Rattle.machine_place_a.proofs.checks.check_piece.Given as goal

-- whether no word so far is at or above p
abbrev pub invariant-loop-word : goal.invariant-loop-word
invariant-loop-word l = cond l.good 0 2 ≡ words_of l.piece l.word-index
