use Prim.Native.Nat.{◌≤◌}
use mathlib.Core.Path.{◌≡◌}
use lib.ListN.{length}
use Rattle.replay_scan.specs.RecordView.{log_at}
use Rattle.replay_scan.specs.ScanView.{Places}
use Rattle.replay_scan.proofs.Scans.{Going}
use Rattle.replay_scan.proofs.scan.scan_log.Given as goal

abbrev pub invariant-loop-record : goal.invariant-loop-record
invariant-loop-record l =
    record {
      can : (goal.iterator-loop-record).can_next l.record-iterator;
      finite : (goal.iterator-loop-record).is_finite l.record-iterator;
      log : l.record-iterator.log ≡ l.log;
      to : l.record-iterator.to ≡ length l.log.bytes.now;
      within : l.record-iterator.at ≤ length l.log.bytes.now;
      places : Places l.words l.depth;
      room : length l.words ≡ length l.initial.words;
      going : Going (log_at l.log) l.initial.words l.clock l.record-iterator.at l.counts l.depth l.ram l.words;
    }
