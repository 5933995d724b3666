use mathlib.Core.Path.{refl, sym, ap}
use native.Mathlib.Omega.{arith}
use lib.ListN.{length}
use Rattle.job.proofs.ListingLaws.{decimal_one, decimal_few, decimal_length, decimal_more, put_as, put-more}
use Rattle.job.proofs.put.+put_decimal.Goals as goal

pub put_byte-requires : goal.put_byte-requires
put_byte-requires t c = omega (arith, ap length (decimal_one c.args.v (omega arith)))

pub returns-then-v-lt10 : goal.returns-then-v-lt10
returns-then-v-lt10 t c =
    put_as c.put_byte.ensures (rw c.digit.ensures (sym (decimal_one c.args.v (omega arith)))) (decimal_few c.args.v)

pub put_decimal-next-requires : goal.put_decimal-next-requires
put_decimal-next-requires t c = (omega arith, omega (arith, decimal_length c.args.v c.if-v-lt10.false (omega arith)))

pub put_byte-requires-2 : goal.put_byte-requires-2
put_byte-requires-2 t c =
    omega (arith, c.put_decimal-next.auto.b, c.put_decimal-next.ensures.end, decimal_length c.args.v (omega arith) (omega arith))

pub returns : goal.returns
returns t c =
    put_as
    (put-more (omega arith) c.put_decimal-next.ensures c.put_byte-2.ensures (rw c.digit-2.ensures (decimal_more c.args.v (omega arith) (omega arith))) refl)
    refl
    (decimal_few _)
