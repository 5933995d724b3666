use Rattle.std.proofs.Common.{◌≡◌, length, refl, arith}
use Rattle.machine_perform.proofs.PerformLaws.{keeps_same, keeps_on, wrote_none, wrote_room, wrote_turn}
use Rattle.machine_perform.proofs.perform.write_row.Goals as goal

pub loop-write-init : goal.loop-write-init
loop-write-init c = record { wrote = wrote_none c.requires; lent = keeps_same _ }

pub write_near-guess-requires : goal.write_near-guess-requires
write_near-guess-requires c = wrote_room c.requires c.loop-write-test.true c.loop-write.invariant.wrote _ refl

pub loop-write-preserved : goal.loop-write-preserved
loop-write-preserved c =
    let l = c.loop-write.invariant in
    record {
      wrote = wrote_turn c.requires c.loop-write-test.true l.wrote _ refl c.write_near-guess.ensures.stored;
      lent = keeps_on l.lent c.write_near-guess.ensures.lent;
    }

pub returns-clause-touched : goal.returns-clause-touched
returns-clause-touched c =
    let e : c.loop-write.write-index ≡ length c.args.writes.now = omega arith in
    rw e at c.loop-write.invariant.wrote.is

pub returns-clause-lent : goal.returns-clause-lent
returns-clause-lent c = c.loop-write.invariant.lent
