use mathlib.Core.Path.{refl}
use native.Mathlib.Omega.{arith}
use Rattle.choices.specs.Choice.{first_of}
use Rattle.machine.specs.Ram.{has, find, stands_at, place_of, place_from, fall_of, falls_of}
use Rattle.replay_table.specs.Merge.{lacked}
use Rattle.replay_table.proofs.TableLaws.{sorted_by}
use Rattle.replay_table.proofs.cells.tests.brings_lent_cells.Goals as goal

pub lacked-requires-clause-ordered : goal.lacked-requires-clause-ordered
unfolding falls_of
lacked-requires-clause-ordered g c = record { within = omega arith; ascending = refl }

pub merge-requires : goal.merge-requires
unfolding has find stands_at place_of place_from fall_of falls_of first_of lacked
merge-requires g c = record {
  into = sorted_by _ (omega arith) refl refl;
  from = sorted_by _ (omega arith) refl refl;
  is = refl;
  room = omega arith;
}
