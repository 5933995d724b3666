use Rattle.std.proofs.Common.{refl}
use Rattle.machine.specs.Words.{words_of}
use Rattle.machine_place_a.proofs.ChecksLaws.{words_all}
use Rattle.machine_place_a.proofs.checks.check_piece.Goals as goal

pub loop-word-preserved : goal.loop-word-preserved
loop-word-preserved c = words_all c.loop-word.good _ _ c.loop-word.invariant

pub loop-word-init : goal.loop-word-init
unfolding words_of
loop-word-init c = refl
