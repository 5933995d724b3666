use Rattle.std.proofs.Common.{refl}
use Rattle.tip5.specs.Round.{constants}
use Rattle.tip5.proofs.round.constant_table.Goals as goal

pub returns : goal.returns
unfolding constants
returns c = refl
