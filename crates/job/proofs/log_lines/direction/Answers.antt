use Rattle.std.proofs.Common.{refl}
use borrow.Author.Tests.{ne_eqb}
use Rattle.job.specs.Listing.{direction_text}
use Rattle.job.proofs.log_lines.direction.Goals as goal

pub returns-else-byte-eq0 : goal.returns-else-byte-eq0
unfolding direction_text
returns-else-byte-eq0 c = rw (ne_eqb c.args.byte 0 c.if-byte-eq0.false) refl
