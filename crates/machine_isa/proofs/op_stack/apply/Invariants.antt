use Rattle.std.proofs.Common.{◌≡◌, ◌+◌, ◌-◌, ◌≤◌, replicate}
use Rattle.std.proofs.Math.Seq.{paste}
use Rattle.machine_isa.proofs.op_stack.apply.Given as goal

abbrev pub invariant-loop-i : goal.invariant-loop-i
invariant-loop-i l = l.stack ≡ paste l.initial.stack l.base l.words.words l.i

abbrev pub invariant-loop-j : goal.invariant-loop-j
invariant-loop-j l =
    (l.j ≤ l.words.count + (l.pops - l.words.count))
    × (l.stack ≡ paste l.initial.stack (l.base + l.words.count) (replicate (l.j - l.words.count) 0) (l.j - l.words.count))
