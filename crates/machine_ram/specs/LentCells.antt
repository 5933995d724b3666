-- The cells that RAM's structs lend.
use Rattle.std.specs.Prelude.{◌≡◌}
use Rattle.machine_ram.specs.declared.ram.Ram.{Ram}
use Rattle.machine_ram.specs.declared.ram_mut.RamMut.{RamMut}
use Rattle.machine.specs.Ram.{Cells, cells}

abbrev pub cells_of : Ram → Cells
cells_of r = cells r.count r.addresses.now r.values.now

abbrev pub cells_of_mut : RamMut → Cells
cells_of_mut r = cells r.count r.addresses.now r.values.now

-- the same slices are lent
pub record Keeps (a b : RamMut) : Type 0 where
  pub addresses : b.addresses.ghost_name ≡ a.addresses.ghost_name
  pub values : b.values.ghost_name ≡ a.values.ghost_name
