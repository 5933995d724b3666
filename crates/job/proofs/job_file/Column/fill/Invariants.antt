use Rattle.std.proofs.Common.{◌≡◌, length}
use Rattle.job.specs.JobFileView.{kind_number}
use Rattle.job.proofs.JobFileLaws.{Columns}
use Rattle.job.proofs.job_file.Column.fill.Given as goal

abbrev pub invariant-loop-piece : goal.invariant-loop-piece
invariant-loop-piece l =
    (length l.out ≡ length l.initial.out) × Columns l.file l.piece-iterator.0.now l.initial.out l.out (kind_number l.self.kind) l.self.from l.self.width l.self.many l.to
