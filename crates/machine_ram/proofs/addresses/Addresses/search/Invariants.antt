use Rattle.machine_ram.proofs.RamView.{Narrowed}
use Rattle.machine_ram.proofs.addresses.Addresses.search.Given as goal

abbrev pub invariant-loop-left : goal.invariant-loop-left
invariant-loop-left l = Narrowed l.self.words.now l.self.count l.address l.from l.left l.last

abbrev pub decreases-loop-left : goal.decreases-loop-left
decreases-loop-left l = l.left
