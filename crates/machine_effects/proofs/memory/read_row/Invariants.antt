use Rattle.machine_ram.specs.LentCells.{cells_of}
use Rattle.machine_effects.proofs.MemoryView.{Reading}
use Rattle.machine_effects.proofs.memory.read_row.Given as goal

abbrev pub invariant-loop-i : goal.invariant-loop-i
invariant-loop-i l = Reading l.step (cells_of l.ram) l.start l.n l.cells l.words l.address l.i
