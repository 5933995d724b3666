use Rattle.std.proofs.Common.{refl}
use Rattle.machine.specs.Words.{zeros_from}
use Rattle.machine_place_a.proofs.ChecksLaws.{zeros_all}
use Rattle.machine_place_a.proofs.checks.check_zeros.Goals as goal

pub loop-word-init : goal.loop-word-init
unfolding zeros_from
loop-word-init c = refl

pub loop-word-preserved : goal.loop-word-preserved
loop-word-preserved c = zeros_all c.loop-word.good _ _ c.loop-word.invariant
