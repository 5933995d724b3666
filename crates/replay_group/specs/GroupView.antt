-- What the code gives for a group of addresses, and for all. c are the opening's cells, t those of the table, l its late ones.
use Rattle.std.specs.Prelude.{ℕ, ◌+◌, ◌*◌, ◌/◌, ◌<◌, ◌≤◌, ◌≡◌, Bool, true, false, List, [], ◌++◌, length, Option, Some, None}
use Rattle.machine.specs.Words.{p}
use Rattle.machine.specs.Ram.{Cells, cells}
use Rattle.machine.specs.Records.{Record}
use Rattle.replay_group.specs.declared.group.Sweep.{Sweep}
use Rattle.std.specs.Borrow.{Bor}
use Rattle.machine_ram.specs.declared.ram_mut.RamMut.{RamMut}
use Rattle.replay_table.specs.declared.cells.SeenCells.{SeenCells}
use Rattle.replay_table.specs.declared.table.Table.{Table as LentTable}
use Rattle.machine_ram.specs.LentCells.{cells_of_mut}
use Rattle.replay_table.specs.LentView.{seen_cells}
use Rattle.replay_scan.specs.Walk.{Log, Walk}
use Rattle.replay_table.specs.Group.{Right, Stop, Came, no_cells, cells_in, distinct_in}
use Rattle.replay_table.specs.Table.{Table}

-- the slices of a table and of its late cells
pub record Lent (keys vals lkeys lvals : List ℕ) : Type 0 where
  pub two : 1 < length keys
  pub pair : length keys ≡ length vals
  pub some : 0 < length lkeys
  pub late : length lkeys ≡ length lvals

abbrev pub LentTo : LentTable → Type 0
LentTo t = Lent t.cells.addresses.now t.cells.values.now t.late.addresses.now t.late.values.now

-- reads are looked at where the opening's cells are given
abbrev pub looks : Option (Bor RamMut) → Bool
looks None = false
looks (Some c) = true

abbrev pub opening_of : Option (Bor RamMut) → Cells
opening_of None = no_cells
opening_of (Some c) = cells_of_mut c.now

-- the same of cells that are lent to be looked at
abbrev pub looks_seen : Option (Bor SeenCells) → Bool
looks_seen None = false
looks_seen (Some c) = true

abbrev pub opening_of_seen : Option (Bor SeenCells) → Cells
opening_of_seen None = no_cells
opening_of_seen (Some c) = seen_cells c.now

-- of the records rs those before the place `end` made the table; where reads are looked at, they are right, and no more are
pub record Gathered (log : Log) (checking : Bool) (lo hi : ℕ) (c : Cells) (rs : List Record) (end : ℕ) (t l : Cells) : Type 0 where
  pub done : List Record
  pub rest : List Record
  pub joined : rs ≡ done ++ rest
  pub walk : Walk log 0 end done
  pub table : Table lo hi done t l
  pub right : checking ≡ true → Right lo hi c [] done
  pub stop : checking ≡ true → Stop lo hi c done rest
  pub all : checking ≡ false → rest ≡ []

-- a group from lo to hi, which is the last one or has as many addresses as half of the table's room
pub record Gathers (log : Log) (to : ℕ) (checking : Bool) (lo hi : ℕ) (c : Cells) (end : ℕ) (t l : Cells) : Type 0 where
  pub above : lo < hi
  pub below : hi ≤ p
  pub within : end ≤ to
  pub half : hi < p → length t.addresses / 2 ≤ t.count
  pub gathered : (rs : List Record) → Walk log 0 to rs → Gathered log checking lo hi c rs end t l

-- all addresses: the reads before the end are right; what the records take, where there is no wrong read. `half` is half of the table's room: each
-- group but the last has as many addresses that the records write to
pub record Swept (log : Log) (to : ℕ) (c : Cells) (rs : List Record) (half : ℕ) (r : Sweep) : Type 0 where
  pub done : List Record
  pub walk : Walk log 0 r.end done
  pub came : Came 0 p c rs done
  pub takes : r.end ≡ to → r.cells ≡ cells_in 0 p c [] rs
  pub few : r.groups * half ≤ distinct_in 0 p rs + half

pub record Sweeps (log : Log) (to : ℕ) (c : Cells) (t : LentTable) (r : Sweep) : Type 0 where
  pub within : r.end ≤ to
  pub swept : (rs : List Record) → Walk log 0 to rs → Swept log to c rs (length t.cells.addresses.now / 2) r
  -- one group: the table is that of all records
  pub whole : r.groups ≡ 1 → r.end ≡ to → (rs : List Record) → Walk log 0 to rs → Table 0 p rs (cells_of_mut t.cells) (cells 0 t.late.addresses.now t.late.values.now)
