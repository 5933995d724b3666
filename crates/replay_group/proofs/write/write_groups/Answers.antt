use native.Mathlib.Omega.{arith}
use mathlib.Core.Path.{◌≡◌, refl}
use Rattle.machine.specs.Words.{p}
use Rattle.replay_table.proofs.KeptLaws.{kept_same, kept_on, table_same, table_on}
use Rattle.replay_table.proofs.TableLaws.{sorted_none}
use Rattle.replay_group.proofs.SweepLaws.{lent_again}
use Rattle.replay_group.proofs.WriteLaws.{writing-none, writing-few, writing_more, writing-fits, writing-room, writing_end, gathered-all}
use Rattle.replay_group.proofs.write.write_groups.Goals as goal

pub loop-low-init : goal.loop-low-init
loop-low-init c =
    record { below = omega arith; kept = kept_same _; kept_table = table_same _; writing = λ rs w. writing-none _ rs _ c.requires.0.sorted }

pub group_from_seen-group-requires : goal.group_from_seen-group-requires
group_from_seen-group-requires c =
    let r = c.requires in
    let k = c.loop-low.invariant.kept_table in
    (record { records = r.0.records; walk = r.0.walk; ends = r.0.ends }, c.loop-low-test.true, sorted_none _ _ refl, lent_again r.1 k.cells.room k.cells.pair k.late.room k.late.pair)

pub bring-requires : goal.bring-requires
bring-requires c =
    let r = c.requires in
    let l = c.loop-low.invariant in
    let d = c.group_from_seen-group.ensures.gathers in
    let k = c.look-written.ensures in
    rw (k.addresses, k.values, k.count) (writing-fits (l.writing r.0.records r.0.walk) d.above (gathered-all (d.gathered r.0.records r.0.walk)) r.0.room d.below)

pub loop-low-smaller : goal.loop-low-smaller
loop-low-smaller c =
    let d = c.group_from_seen-group.ensures.gathers in
    omega (arith, d.above, d.below)

pub loop-low-preserved : goal.loop-low-preserved
loop-low-preserved c =
    let r = c.requires in
    let l = c.loop-low.invariant in
    let d = c.group_from_seen-group.ensures.gathers in
    let k = table_on l.kept_table c.group_from_seen-group.ensures.kept in
    let s = c.look-written.ensures in
    let b = rw (s.addresses, s.values, s.count) at c.bring.ensures.brings in
    record {
      below = d.below;
      kept = kept_on l.kept c.bring.ensures.kept;
      kept_table = k;
      writing =
          λ rs w.
          let g = l.writing rs w in
          let t = gathered-all (d.gathered rs w) in
          writing_more g d.above d.below c.loop-low-test.true t b (writing-fits g d.above t (writing-room r.0 w) d.below) (λ z. omega (arith, d.half z, k.cells.room));
    }

pub returns-clause-written : goal.returns-clause-written
returns-clause-written c =
    let r = c.requires in
    let l = c.loop-low.invariant in
    let e : c.loop-low.low ≡ p = omega (arith, l.below) in
    (writing_end r.0 (λ rs w. rw e at (l.writing rs w))).0

pub returns-clause-few : goal.returns-clause-few
returns-clause-few c =
    let r = c.requires in
    let l = c.loop-low.invariant in
    let e : c.loop-low.low ≡ p = omega (arith, l.below) in
    (writing_end r.0 (λ rs w. rw e at (l.writing rs w))).1

pub overflow_add-groups : goal.overflow_add-groups
overflow_add-groups c =
    let r = c.requires in
    let l = c.loop-low.invariant in
    omega (arith, writing-few r.0.walk (l.writing r.0.records r.0.walk) (omega (arith, r.1.two)) c.loop-low-test.true, r.0.ends)
