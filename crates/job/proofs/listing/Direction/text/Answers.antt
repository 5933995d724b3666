use Rattle.std.proofs.Common.{refl}
use Rattle.job.specs.Listing.{direction_text}
use Rattle.job.proofs.listing.Direction.text.Goals as goal

pub returns-in-Read : goal.returns-in-Read
unfolding direction_text
returns-in-Read c = rw c.in-Read.is refl

pub returns-in-Write : goal.returns-in-Write
unfolding direction_text
returns-in-Write c = rw c.in-Write.is refl
