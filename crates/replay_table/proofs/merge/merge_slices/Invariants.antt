use Rattle.machine.specs.Ram.{cells}
use Rattle.replay_table.proofs.MergeLaws.{Merges}
use Rattle.replay_table.proofs.merge.merge_slices.Given as goal

abbrev pub invariant-loop-j : goal.invariant-loop-j
invariant-loop-j l = Merges (cells l.count l.initial.addresses l.initial.values) (cells l.n l.keys l.vals) l.addresses l.values l.i l.j l.at

abbrev pub decreases-loop-j : goal.decreases-loop-j
decreases-loop-j l = l.at
