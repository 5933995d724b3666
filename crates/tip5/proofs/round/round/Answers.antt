use Rattle.std.proofs.Common.{◌∙◌}
use Rattle.tip5.specs.Round.{round_of}
use Rattle.tip5.proofs.round.round.Goals as goal

pub returns : goal.returns
unfolding round_of
returns c = c.linear_layer.ensures ∙ rw c.sbox_layer.ensures
