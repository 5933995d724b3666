use native.Mathlib.Omega.{arith}
use Rattle.replay_table.proofs.TableLaws.{settling}
use Rattle.replay_table.proofs.table.settle.Goals as goal

pub overflow_add-total : goal.overflow_add-total
overflow_add-total c = omega (arith, c.requires.room)

pub merge_seen-requires : goal.merge_seen-requires
merge_seen-requires c = settling c.requires
