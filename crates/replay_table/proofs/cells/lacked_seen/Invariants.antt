use Rattle.replay_table.specs.Merge.{Lacked}
use Rattle.replay_table.proofs.cells.lacked_seen.Given as goal

abbrev pub invariant-loop-address : goal.invariant-loop-address
invariant-loop-address l = Lacked l.cells.addresses.now l.cells.count l.from.addresses.now l.address-index l.new
