-- What is decided on the records up to the scan's end, before RAM is written.
use Rattle.std.specs.Prelude.{ℕ, ◌+◌, ◌<◌, ◌≤◌, ◌≡◌, Bool, true, List, [], ◌∷◌, ◌++◌, length}
use Rattle.machine.specs.Words.{p}
use Rattle.machine.specs.Ram.{Cells, cells}
use Rattle.machine.specs.Records.{Record}
use Rattle.replay_scan.specs.Walk.{Log, Walk}
use Rattle.replay_scan.specs.Scan.{Fines}
use Rattle.replay_table.specs.Merge.{Sorted}
use Rattle.replay_table.specs.Group.{Right, WrongAt, cells_in}
use Rattle.replay_table.specs.Table.{Table}
use Rattle.replay_table.specs.declared.table.Table.{Table as LentTable}
use Rattle.machine_ram.specs.LentCells.{cells_of_mut}
use Rattle.replay_group.specs.WriteView.{Written}

-- from the opening's cells c and the scan's number: that number where all reads are right and the cells suffice, else 43 or 44
pub data Decided (c : Cells) (rs : List Record) (number : ℕ) : ℕ → Type 0 where
  passes : Right 0 p c [] rs → c.count + cells_in 0 p c [] rs ≤ length c.addresses → Decided c rs number number
  at_read : (done rest : List Record) (r : Record) → rs ≡ done ++ r ∷ rest → Right 0 p c [] done → WrongAt 0 p c done r →
      c.count + cells_in 0 p c [] done ≤ length c.addresses → Decided c rs number 43
  at_write : (done rest : List Record) → rs ≡ done ++ rest → Right 0 p c [] done → length c.addresses < c.count + cells_in 0 p c [] done → Decided c rs number 44

pub record Decides (log : Log) (to number : ℕ) (c : Cells) (r : ℕ) : Type 0 where
  pub decided : (rs : List Record) → Walk log 0 to rs → Decided c rs number r

-- the table that is left is that of all records, where it is said to be
pub record Left (log : Log) (to : ℕ) (whole : Bool) (t : Cells) (s v : List ℕ) : Type 0 where
  pub table : whole ≡ true → (rs : List Record) → Walk log 0 to rs → Table 0 p rs t (cells 0 s v)

abbrev pub LeftIn : Log → ℕ → Bool → LentTable → Type 0
LeftIn log to whole t = Left log to whole (cells_of_mut t.cells) t.late.addresses.now t.late.values.now

-- the records up to `to`, whose addresses are words, and the opening's cells
pub record Scans (log : Log) (to : ℕ) (c : Cells) : Type 0 where
  pub records : List Record
  pub walk : Walk log 0 to records
  pub ends : to ≤ length log.bytes
  pub fine : Fines records
  pub sorted : Sorted c

-- decided; the writes are brought into RAM where the number is 0, and else nothing is
pub record Rebuilds (log : Log) (to number : ℕ) (c : Cells) (r : ℕ) (d : Cells) : Type 0 where
  pub decides : Decides log to number c r
  pub written : r ≡ 0 → Written log to c d
  pub kept : (r ≡ 0 → ⊥) → d ≡ c
