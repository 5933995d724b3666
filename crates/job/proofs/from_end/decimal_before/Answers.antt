use Rattle.std.proofs.Common.{refl, sym, append-nil, [], ◌∷◌, arith}
use Rattle.job.proofs.ListingLaws.{before-none, before-more, digit-before, digit_first, digit-room}
use Rattle.job.proofs.from_end.decimal_before.Goals as goal

pub loop-rest-init : goal.loop-rest-init
loop-rest-init c = ([], sym (append-nil _), before-none _ _, refl)

pub byte_before-start-requires : goal.byte_before-start-requires
byte_before-start-requires c =
    let i = c.loop-rest.invariant in
    (digit-room c.args.v c.loop-rest.rest _ _ i.0 (omega arith) c.requires.0 i.1 i.2, omega (arith, i.3, i.2.place, c.requires.1))

pub loop-rest-smaller : goal.loop-rest-smaller
loop-rest-smaller c = omega arith

pub loop-rest-preserved : goal.loop-rest-preserved
loop-rest-preserved c =
    let i = c.loop-rest.invariant in (
      c.digit.result ∷ i.0,
      digit-before c.args.v c.loop-rest.rest _ i.0 (omega arith) (omega arith) c.digit.ensures i.1,
      before-more i.2 c.byte_before-start.ensures refl,
      omega (arith, i.3, c.byte_before-start.auto.b),
    )

pub byte_before-requires : goal.byte_before-requires
byte_before-requires c =
    let i = c.loop-rest.invariant in
    (digit-room c.args.v c.loop-rest.rest _ _ i.0 (omega arith) c.requires.0 i.1 i.2, omega (arith, i.3, i.2.place, c.requires.1))

pub returns : goal.returns
returns c =
    let i = c.loop-rest.invariant in
    before-more i.2 c.byte_before.ensures (digit_first c.args.v c.loop-rest.rest _ i.0 (omega arith) c.digit-2.ensures i.1)
