use mathlib.Core.Path.{◌≡◌}
use Prim.Native.Nat.{◌-◌, ◌≤◌}
use lib.ListN.{length, take}
use Rattle.job.specs.Listing.{Put}
use Rattle.job.proofs.put.put_text.Given as goal

abbrev pub invariant-loop-i : goal.invariant-loop-i
invariant-loop-i l = (l.i ≤ length l.text) × (length l.b ≡ length l.initial.b) × Put l.initial.b l.b l.at (take l.i l.text) l.i l.next

abbrev pub decreases-loop-i : goal.decreases-loop-i
decreases-loop-i l = length l.text - l.i
