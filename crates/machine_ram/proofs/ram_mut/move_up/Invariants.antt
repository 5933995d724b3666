use Rattle.std.proofs.Common.{◌≡◌, ◌-◌, ◌≤◌, length}
use Rattle.machine.specs.Ram.{moved_up}
use Rattle.machine_ram.proofs.ram_mut.move_up.Given as goal

abbrev pub invariant-loop-k : goal.invariant-loop-k
invariant-loop-k l = (l.k ≤ l.n) × (length l.s ≡ length l.initial.s) × (l.s ≡ moved_up l.initial.s l.k (l.n - l.k))

abbrev pub decreases-loop-k : goal.decreases-loop-k
decreases-loop-k l = l.k
