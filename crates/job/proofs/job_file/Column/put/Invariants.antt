use Rattle.std.proofs.Common.{◌≡◌, ◌+◌, length}
use Rattle.job.specs.Listing.{Put}
use Rattle.job.specs.JobFile.{numbers_in}
use Rattle.job.proofs.job_file.Column.put.Given as goal

abbrev pub invariant-loop-i : goal.invariant-loop-i
invariant-loop-i l = (length l.out ≡ length l.initial.out) × Put l.initial.out l.out l.to (numbers_in l.n l.i l.fields) l.i (l.to + l.i)
