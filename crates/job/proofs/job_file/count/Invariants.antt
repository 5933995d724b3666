use Rattle.std.proofs.Common.{◌≡◌, ◌+◌, ◌≤◌, length}
use Rattle.job.specs.JobFile.{pieces_of, count_of}
use Rattle.job.specs.JobFileView.{piece_number}
use Rattle.job.proofs.job_file.count.Given as goal

abbrev pub invariant-loop-piece : goal.invariant-loop-piece
invariant-loop-piece l =
    (l.n + length l.piece-iterator.0.now ≤ length l.file) × (l.n + count_of (piece_number l.kind) (pieces_of l.piece-iterator.0.now) ≡ count_of (piece_number l.kind) (pieces_of l.file))
