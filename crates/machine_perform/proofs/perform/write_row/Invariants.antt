use Rattle.machine_ram.specs.LentCells.{cells_of_mut, Keeps}
use Rattle.machine_perform.proofs.PerformLaws.{Wrote}
use Rattle.machine_perform.proofs.perform.write_row.Given as goal

-- the first writes are made
abbrev pub invariant-loop-write : goal.invariant-loop-write
invariant-loop-write l =
    record {
      wrote : Wrote (cells_of_mut l.initial.ram) l.writes l.write-index (cells_of_mut l.ram);
      lent : Keeps l.initial.ram l.ram;
    }
