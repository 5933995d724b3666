use Rattle.std.proofs.Common.{◌≤◌, length, refl, arith}
use Rattle.job.proofs.ListingLaws.{before-more, field_few, direction_few, stack_parts}
use Rattle.job.proofs.listing.stack_line_before.Goals as goal

pub text_before-third-requires : goal.text_before-third-requires
text_before-third-requires c =
    let few : length c.as_bytes.result.now ≤ 6 = rw (c.as_bytes.ensures.value, c.text.ensures) (direction_few _) in
    (omega (arith, few, c.field_before-fourth.ensures.place, field_few c.args.value 10), omega (arith, c.field_before-fourth.ensures.place, c.field_before-fourth.auto.b, c.requires))

pub field_before-second-requires : goal.field_before-second-requires
field_before-second-requires c =
    let few : length c.as_bytes.result.now ≤ 6 = rw (c.as_bytes.ensures.value, c.text.ensures) (direction_few _) in
    let first = c.field_before-fourth.ensures.place in
    let then = c.text_before-third.ensures.place in
    (omega (arith, few, first, then, field_few c.args.value 10), omega (arith, first, then, c.text_before-third.auto.b, c.field_before-fourth.auto.b, c.requires))

pub field_before-first-requires : goal.field_before-first-requires
field_before-first-requires c =
    let few : length c.as_bytes.result.now ≤ 6 = rw (c.as_bytes.ensures.value, c.text.ensures) (direction_few _) in
    let one = c.field_before-fourth.ensures.place in
    let two = c.text_before-third.ensures.place in
    let three = c.field_before-second.ensures.place in (
      omega (arith, few, one, two, three, field_few c.args.value 10, field_few c.args.pointer 32),
      omega (arith, one, two, three, c.field_before-second.auto.b, c.text_before-third.auto.b, c.field_before-fourth.auto.b, c.requires),
    )

pub text_before-requires : goal.text_before-requires
text_before-requires c =
    let few : length c.as_bytes.result.now ≤ 6 = rw (c.as_bytes.ensures.value, c.text.ensures) (direction_few _) in
    let one = c.field_before-fourth.ensures.place in
    let two = c.text_before-third.ensures.place in
    let three = c.field_before-second.ensures.place in
    let four = c.field_before-first.ensures.place in (
      omega (arith, few, one, two, three, four, field_few c.args.value 10, field_few c.args.pointer 32, field_few c.args.clock 32),
      omega (arith, one, two, three, four, c.field_before-first.auto.b, c.field_before-second.auto.b, c.text_before-third.auto.b, c.field_before-fourth.auto.b, c.requires),
    )

pub returns : goal.returns
returns c =
    before-more
    (before-more
    (before-more
    (before-more c.field_before-fourth.ensures (rw (c.as_bytes.ensures.value, c.text.ensures) at c.text_before-third.ensures) refl)
    c.field_before-second.ensures refl)
    c.field_before-first.ensures refl)
    c.text_before.ensures (stack_parts _ _ _ _)
