use Rattle.std.proofs.Common.{◌∙◌}
use Rattle.tip5.specs.Hash.{hash10_of}
use Rattle.tip5.proofs.hash.hash_10.Goals as goal

pub returns : goal.returns
unfolding hash10_of
returns c = c.first.ensures ∙ rw (c.absorb.ensures, c.new.ensures)
