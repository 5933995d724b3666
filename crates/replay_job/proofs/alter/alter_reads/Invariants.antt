use mathlib.Core.Path.{◌≡◌}
use lib.ListN.{length}
use Rattle.replay_job.proofs.alter.alter_reads.Given as goal

abbrev pub invariant-loop-record : goal.invariant-loop-record
invariant-loop-record g l =
    record {
      can : (goal.iterator-loop-record g).can_next l.record-iterator;
      finite : (goal.iterator-loop-record g).is_finite l.record-iterator;
      log : l.record-iterator.log.bytes.now ≡ l.log;
      revision : l.record-iterator.log.revision ≡ 1;
      same : length l.altered ≡ length l.log;
    }
