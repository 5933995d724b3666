use mathlib.Core.Path.{◌≡◌}
use Rattle.replay_scan.specs.RecordView.{log_at}
use Rattle.replay_table.specs.LentView.{KeptTable}
use Rattle.replay_group.specs.GroupView.{looks_seen, opening_of_seen}
use Rattle.replay_group.proofs.PassLaws.{Going}
use Rattle.replay_group.proofs.group.pass_log.Given as goal

abbrev pub invariant-loop-record : goal.invariant-loop-record
invariant-loop-record l =
    record {
      can : (goal.iterator-loop-record).can_next l.record-iterator;
      finite : (goal.iterator-loop-record).is_finite l.record-iterator;
      log : l.record-iterator.log ≡ l.log;
      to : l.record-iterator.to ≡ l.to;
      going : Going (log_at l.log) l.to (looks_seen l.opening) l.low l.high (opening_of_seen l.opening) l.record-iterator.at l.table.cells.count l.table.cells.addresses.now l.table.cells.values.now l.table.late.count l.table.late.addresses.now l.table.late.values.now;
      kept : KeptTable l.initial.table l.table;
    }
