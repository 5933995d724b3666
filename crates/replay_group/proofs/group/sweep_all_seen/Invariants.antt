use Prim.Native.Nat.{◌-◌, ◌/◌, ◌≤◌}
use mathlib.Core.List.{List}
use lib.ListN.{length}
use Rattle.machine.specs.Words.{p}
use Rattle.machine.specs.Records.{Record}
use Rattle.replay_scan.specs.RecordView.{log_at}
use Rattle.replay_scan.specs.Walk.{Walk}
use Rattle.machine_ram.specs.LentCells.{cells_of_mut}
use Rattle.replay_table.specs.LentView.{KeptTable, seen_cells}
use Rattle.replay_group.proofs.SweepLaws.{Grouping}
use Rattle.replay_group.proofs.group.sweep_all_seen.Given as goal

abbrev pub invariant-loop-low : goal.invariant-loop-low
invariant-loop-low l =
    record {
      below : l.low ≤ p;
      within : l.end ≤ l.to;
      kept : KeptTable l.initial.table l.table;
      grouping :
          (rs : List Record) → Walk (log_at l.log) 0 l.to rs →
          Grouping (log_at l.log) l.to l.low (seen_cells l.opening) rs l.end l.cells (length l.initial.table.cells.addresses.now / 2) l.groups (cells_of_mut l.table.cells) l.table.late.addresses.now l.table.late.values.now;
    }

abbrev pub decreases-loop-low : goal.decreases-loop-low
decreases-loop-low l = p - l.low
