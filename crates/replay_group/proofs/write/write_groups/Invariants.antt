use Prim.Native.Nat.{◌-◌, ◌/◌, ◌≤◌}
use mathlib.Core.List.{List}
use lib.ListN.{length}
use Rattle.machine.specs.Words.{p}
use Rattle.machine.specs.Records.{Record}
use Rattle.replay_scan.specs.RecordView.{log_at}
use Rattle.replay_scan.specs.Walk.{Walk}
use Rattle.machine_ram.specs.LentCells.{cells_of_mut}
use Rattle.replay_table.specs.LentView.{Kept, KeptTable}
use Rattle.replay_group.proofs.WriteLaws.{Writing}
use Rattle.replay_group.proofs.write.write_groups.Given as goal

abbrev pub invariant-loop-low : goal.invariant-loop-low
invariant-loop-low l =
    record {
      below : l.low ≤ p;
      kept : Kept l.initial.cells l.cells;
      kept_table : KeptTable l.initial.table l.table;
      writing :
          (rs : List Record) → Walk (log_at l.log) 0 l.to rs →
          Writing l.low (cells_of_mut l.initial.cells) rs (length l.initial.table.cells.addresses.now / 2) l.groups (cells_of_mut l.cells);
    }

abbrev pub decreases-loop-low : goal.decreases-loop-low
decreases-loop-low l = p - l.low
