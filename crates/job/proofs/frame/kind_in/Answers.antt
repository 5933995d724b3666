use Rattle.job.specs.Frame.{kind_in}
use Rattle.job.proofs.frame.kind_in.Goals as goal

pub returns : goal.returns
unfolding kind_in
returns c = c.number_in.ensures.0
