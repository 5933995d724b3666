use Rattle.std.proofs.Common.{◌≡◌, ◌≤◌}
use Rattle.machine_perform.specs.PerformView.{fresh_of}
use Rattle.machine_perform.proofs.limits.fresh.Given as goal

abbrev pub invariant-loop-i : goal.invariant-loop-i
invariant-loop-i l = (l.more ≤ l.i) × (l.more ≡ fresh_of l.ram.addresses.now l.ram.count l.writes l.i)
