use mathlib.Core.Path.{refl}
use native.Mathlib.Omega.{arith}
use Rattle.job.specs.Listing.{field_of}
use Rattle.job.proofs.ListingLaws.{decimal_few, put-more}
use Rattle.job.proofs.put.put_field.Goals as goal

pub put_decimal-next-requires : goal.put_decimal-next-requires
put_decimal-next-requires c = omega (arith, decimal_few c.args.v)

pub returns : goal.returns
unfolding field_of
returns c =
    put-more (omega arith) c.put_decimal-next.ensures c.put_byte.ensures refl refl
