use mathlib.Core.Path.{refl}
use native.Mathlib.Omega.{arith}
use Rattle.machine.specs.Ram.{falls_of}
use Rattle.replay_table.proofs.TableLaws.{sorted_by}
use Rattle.replay_group.proofs.group.tests.sweeps_with_a_lent_opening.Goals as goal

pub sweep_all-sweep-requires : goal.sweep_all-sweep-requires
unfolding falls_of
sweep_all-sweep-requires g c =
    let s = c.scan_log-scan.ensures in (
      record { records = s.records; walk = s.walk; ends = s.inside },
      sorted_by _ (omega arith) refl refl,
      record { two = omega arith; pair = refl; some = omega arith; late = refl },
    )
