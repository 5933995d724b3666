-- Lent slices over several calls. Assumes nothing.
use Rattle.std.proofs.Common.{refl, ap, ◌∙◌, ℕ, length}
use Rattle.machine.specs.Ram.{Cells}
use Rattle.machine.proofs.RamLaws.{stored_addresses, stored_values}
use Rattle.machine_ram.specs.declared.ram_mut.RamMut.{RamMut}
use Rattle.machine_ram.specs.LentCells.{cells_of_mut, Keeps}
use Rattle.machine_ram.specs.RamView.{Stored}
use Rattle.replay_table.specs.declared.table.Table.{Table as LentTable}
use Rattle.replay_table.specs.LentView.{Kept, KeptTable}

pub kept_same : (b : RamMut) → Kept b b
kept_same b = record { addresses = refl; values = refl; room = refl; pair = refl }

pub kept_on : {b c d : RamMut} → Kept b c → Kept c d → Kept b d
kept_on h k = record { addresses = k.addresses ∙ h.addresses; values = k.values ∙ h.values; room = k.room ∙ h.room; pair = k.pair ∙ h.pair }

-- a write leaves slices as long
pub kept_stored : {b c : RamMut} {a v : ℕ} → Keeps b c → Stored (cells_of_mut b) a v (cells_of_mut c) → Kept b c
kept_stored {b} {c} {a} {v} k s =
    record {
      addresses = k.addresses;
      values = k.values;
      room = ap (λ (d : Cells). length d.addresses) s.is ∙ stored_addresses (cells_of_mut b) a v;
      pair = ap (λ (d : Cells). length d.values) s.is ∙ stored_values (cells_of_mut b) a v;
    }

pub table_same : (t : LentTable) → KeptTable t t
table_same t = record { cells = kept_same t.cells; late = kept_same t.late }

pub table_on : {t u w : LentTable} → KeptTable t u → KeptTable u w → KeptTable t w
table_on h k = record { cells = kept_on h.cells k.cells; late = kept_on h.late k.late }
