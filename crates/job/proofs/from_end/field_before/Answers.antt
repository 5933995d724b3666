use Rattle.std.proofs.Common.{refl, arith}
use Rattle.job.specs.Listing.{field_of}
use Rattle.job.proofs.ListingLaws.{before-more}
use Rattle.job.proofs.from_end.field_before.Goals as goal

pub decimal_before-requires : goal.decimal_before-requires
decimal_before-requires c = (omega (arith, c.byte_before-behind.ensures.place), omega (arith, c.byte_before-behind.ensures.place, c.byte_before-behind.auto.b))

pub returns : goal.returns
unfolding field_of
returns c = before-more c.byte_before-behind.ensures c.decimal_before.ensures refl
