use Rattle.std.proofs.Common.{rules, arith}
use Rattle.std.proofs.Output.{has_written_of_eq, has_written_append}
use Rattle.job.proofs.ListingLaws.{out_none, out_more}
use Rattle.job.proofs.listing.OutLinesDisplay.fmt.Goals as goal

pub loop-word-init : goal.loop-word-init
loop-word-init g c p = has_written_of_eq _ _ _ _ _ (out_none c.args.self.now.0.now) (search rules)

pub loop-word-preserved : goal.loop-word-preserved
loop-word-preserved g c p = has_written_of_eq _ _ _ _ _ (out_more _ _ (omega arith)) (has_written_append _ _ _ _ _ _ (c.loop-word.invariant p) (search rules))
