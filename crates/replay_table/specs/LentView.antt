-- Cells that are lent to be looked at, and what calls leave of lent cells.
use Rattle.std.specs.Prelude.{◌≡◌, length}
use Rattle.machine.specs.Ram.{Cells, cells}
use Rattle.machine_ram.specs.declared.ram_mut.RamMut.{RamMut}
use Rattle.replay_table.specs.declared.cells.SeenCells.{SeenCells}
use Rattle.replay_table.specs.declared.table.Table.{Table as LentTable}

abbrev pub seen_cells : SeenCells → Cells
seen_cells r = cells r.count r.addresses.now r.values.now

-- what is looked at is what is lent
pub record Shows (b : RamMut) (c : SeenCells) : Type 0 where
  pub addresses : c.addresses.now ≡ b.addresses.now
  pub values : c.values.now ≡ b.values.now
  pub count : c.count ≡ b.count

-- the same two slices, as long as before
pub record Kept (b c : RamMut) : Type 0 where
  pub addresses : c.addresses.ghost_name ≡ b.addresses.ghost_name
  pub values : c.values.ghost_name ≡ b.values.ghost_name
  pub room : length c.addresses.now ≡ length b.addresses.now
  pub pair : length c.values.now ≡ length b.values.now

-- the same four
pub record KeptTable (t u : LentTable) : Type 0 where
  pub cells : Kept t.cells u.cells
  pub late : Kept t.late u.late

-- the same words in both
pub record Alike (b c : RamMut) : Type 0 where
  pub addresses : c.addresses.now ≡ b.addresses.now
  pub values : c.values.now ≡ b.values.now
