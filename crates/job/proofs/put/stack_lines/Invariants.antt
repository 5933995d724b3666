use mathlib.Core.Path.{◌≡◌}
use Prim.Native.Nat.{◌-◌, ◌≤◌}
use lib.ListN.{drop, length}
use Rattle.machine.specs.Records.{length_of}
use Rattle.job.specs.Frame.{size_by}
use Rattle.job.proofs.LogLinesLaws.{Lines}
use Rattle.job.proofs.put.stack_lines.Given as goal

abbrev pub invariant-loop-n : goal.invariant-loop-n
invariant-loop-n l = (l.at ≤ length l.log) × (l.n ≡ size_by (length_of 1) (drop l.at l.log)) × (length l.out ≡ length l.initial.out) × Lines l.log l.initial.out l.out l.to l.at l.next

abbrev pub decreases-loop-n : goal.decreases-loop-n
decreases-loop-n l = length l.log - l.at
