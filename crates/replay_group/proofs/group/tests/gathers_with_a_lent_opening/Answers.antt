use mathlib.Core.Path.{refl}
use Rattle.std.proofs.Common.{◌∙◌, sym, arith}
use Rattle.machine.specs.Ram.{falls_of}
use Rattle.replay_table.proofs.TableLaws.{sorted_by}
use Rattle.replay_group.proofs.group.tests.gathers_with_a_lent_opening.Goals as goal

pub group_from-wrong-requires : goal.group_from-wrong-requires
unfolding falls_of
group_from-wrong-requires g c =
    let s = c.scan_log-scan.ensures in (
      record { records = s.records; walk = s.walk; ends = s.inside },
      omega arith,
      sorted_by _ (omega arith) refl refl,
      record { two = omega arith; pair = refl; some = omega arith; late = refl },
    )

pub group_from-all-requires : goal.group_from-all-requires
unfolding falls_of
group_from-all-requires g c =
    let s = c.scan_log-scan.ensures in
    let k = c.group_from-wrong.ensures.kept in (
      record { records = s.records; walk = s.walk; ends = s.inside },
      omega arith,
      sorted_by _ (omega arith) refl refl,
      record {
        two = omega (arith, k.cells.room);
        pair = k.cells.room ∙ sym k.cells.pair;
        some = omega (arith, k.late.room);
        late = k.late.room ∙ sym k.late.pair;
      },
    )
