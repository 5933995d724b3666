use Rattle.std.proofs.Common.{refl, arith, subst, sym, ◌∙◌}
use Rattle.std.specs.Str.{IsUtf8}
use Rattle.std.proofs.Output.{has_written_of_eq}
use Rattle.job.proofs.ListingLaws.{before-whole, stack_utf8}
use Rattle.job.proofs.listing.StackLineDisplay.fmt.Goals as goal

pub from_utf8_unchecked-requires : goal.from_utf8_unchecked-requires
from_utf8_unchecked-requires g c =
    subst IsUtf8 (sym (before-whole refl (omega arith) (omega arith) c.stack_line_before-start.ensures)) (stack_utf8 _ _ _ _ (omega arith) (omega arith) (omega arith))

pub returns-clause-writes : goal.returns-clause-writes
returns-clause-writes g c p q =
    has_written_of_eq _ _ _ _ _ (c.from_utf8_unchecked.ensures ∙ before-whole refl (omega arith) (omega arith) c.stack_line_before-start.ensures) (c.write_str.ensures.writes p q)
