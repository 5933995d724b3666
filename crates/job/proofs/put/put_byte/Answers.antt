use borrow.Author.Rules.{rules}
use Rattle.job.proofs.ListingLaws.{put_one}
use Rattle.job.proofs.put.put_byte.Goals as goal

pub returns : goal.returns
returns c = put_one _ _ _ (search rules)
