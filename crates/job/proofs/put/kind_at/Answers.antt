use Rattle.std.proofs.Common.{refl}
use Rattle.job.proofs.FrameLaws.{rest_is}
use Rattle.job.proofs.put.kind_at.Goals as goal

pub returns : goal.returns
returns c = rw (rest_is c.args.log.now c.args.at c.args.at refl) at c.kind_in.ensures
