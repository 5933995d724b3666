use Rattle.std.proofs.Common.{◌+◌, sym, ap, ◌∙◌, arith}
use Rattle.machine_rows.proofs.RowLaws.{put_unasked, taken_unasked, sound-rowable}
use Rattle.machine_steps.proofs.StepsLaws.{keeps_same, keeps_on, steps_start, steps_fill, steps_stand, steps-sound, steps-priced, steps_go, steps-stop, steps_spend, steps-halt, row_room, price_there}
use Rattle.machine_steps.proofs.steps.steps.Goals as goal
use Rattle.machine_steps.proofs.steps.steps.Goals.{then-loop-count-test+else-not-now, else-loop-count-test}

pub loop-count-init : goal.loop-count-init
loop-count-init c =
    record {
      going = steps_start _ _ _ _ _ _ _ c.requires.sound c.requires.pricing.narrow;
      row = rw (sym c.look.ensures) c.take_row.ensures;
      long = omega (arith, c.take_row.auto);
      lent = keeps_same _;
    }

pub returns-then-short-clause-steps : goal.returns-then-short-clause-steps
returns-then-short-clause-steps c =
    steps_fill c.loop-count.invariant.going c.loop-count-test.true c.if-not-now.true (sym c.short.ensures ∙ c.if-short.true) c.full.ensures

pub returns-in-Err-clause-steps : goal.returns-in-Err-clause-steps
returns-in-Err-clause-steps c =
    steps-stop c.loop-count.invariant.going c.loop-count-test.true c.if-not-now.true (sym c.short.ensures ∙ c.if-short.false) c.in-Err.ensures.stepped

pub price-fee-requires : goal.price-fee-requires
price-fee-requires c =
    price_there _ c.requires.pricing (steps-priced c.loop-count.invariant.going c.loop-count-test.true c.if-not-now.true (sym c.short.ensures ∙ c.if-short.false) c.in-Ok.ensures.stepped)

pub put_row-filled-requires : goal.put_row-filled-requires
put_row-filled-requires c =
    let l = c.loop-count.invariant in
    let room = sym c.short.ensures ∙ c.if-short.false in (
      row_room l.going c.loop-count-test.true c.if-not-now.true room,
      l.long,
      (sound-rowable _ (steps-sound l.going c.loop-count-test.true c.if-not-now.true room c.in-Ok.ensures.stepped)),
    )

pub loop-count-preserved-then-not-beside : goal.loop-count-preserved-then-not-beside
loop-count-preserved-then-not-beside c =
    let l = c.loop-count.invariant in
    let u = c.asks_beside-beside.ensures.rows c.if-not-beside.true in
    let none = c.asks_beside-beside.ensures.prices c.if-not-beside.true in
    record {
      going = steps_go l.going c.loop-count-test.true c.if-not-now.true (sym c.short.ensures ∙ c.if-short.false) c.in-Ok.ensures.stepped l.row (put_unasked u _ _ _) (rw none (omega arith));
      row = taken_unasked u;
      long = l.long;
      lent = keeps_on l.lent c.step_at.ensures.lent;
    }

pub loop-count-preserved : goal.loop-count-preserved
loop-count-preserved c =
    let l = c.loop-count.invariant in
    record {
      going = steps_go l.going c.loop-count-test.true c.if-not-now.true (sym c.short.ensures ∙ c.if-short.false) c.in-Ok.ensures.stepped l.row c.put_row-filled.ensures.0 (ap (λ i. c.loop-count.fee + i) c.price-fee.ensures);
      row = c.put_row-filled.ensures.1;
      long = omega (arith, c.put_row-filled.auto, l.long);
      lent = keeps_on l.lent c.step_at.ensures.lent;
    }

pub returns-clause-steps : goal.returns-clause-steps
returns-clause-steps c =
    let l = c.loop-count.invariant in
    elim c.loop-count-test.branch [
      | then-loop-count-test+else-not-now w ↦ steps-halt l.going c.end.ensures w.if-not-now.false
      | else-loop-count-test w ↦ steps_spend l.going c.end.ensures w.loop-count-test.false
    ]
