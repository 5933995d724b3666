-- What was written and what is left to print are what the file's job prints. The pieces that may follow get fewer.
use Rattle.std.specs.Prelude.{take}
use Rattle.job.specs.Printed.{printed_of}
use Rattle.runjob.specs.SpaceView.{space_code, space_memory}
use Rattle.runjob.specs.PieceView.{Wrote, pieces}
use Rattle.runjob.proofs.print_job.Given as goal

abbrev pub invariant-loop-next : goal.invariant-loop-next
invariant-loop-next g l = Wrote (g.W.Write.contents l.fn.out) (g.W.Write.contents l.out) (printed_of (take l.n l.file)) l.next (space_code l.space) (space_memory l.space)

abbrev pub decreases-loop-next : goal.decreases-loop-next
decreases-loop-next g l = pieces l.next
