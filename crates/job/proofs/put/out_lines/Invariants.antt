use mathlib.Core.Path.{◌≡◌}
use Prim.Native.Nat.{◌*◌, ◌-◌, ◌≤◌}
use lib.ListN.{length, take}
use Rattle.job.specs.Listing.{Put}
use Rattle.job.specs.Printed.{out_lines}
use Rattle.job.proofs.put.out_lines.Given as goal

abbrev pub invariant-loop-i : goal.invariant-loop-i
invariant-loop-i l = (l.i ≤ length l.words) × (length l.b ≡ length l.initial.b) × Put l.initial.b l.b l.at (out_lines (take l.i l.words)) (25 * l.i) l.next

abbrev pub decreases-loop-i : goal.decreases-loop-i
decreases-loop-i l = length l.words - l.i
