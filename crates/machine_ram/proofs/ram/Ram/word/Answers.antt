use Rattle.std.proofs.Common.{sym, ap, ◌∙◌}
use Rattle.machine_ram.specs.LentCells.{cells_of}
use Rattle.machine_ram.specs.RamView.{found_of}
use Rattle.machine_ram.proofs.RamView.{read_at_lem, read-absent}
use Rattle.machine_ram.proofs.ram.Ram.word.Goals as goal

pub returns-in-Ok : goal.returns-in-Ok
returns-in-Ok c =
    read_at_lem (cells_of c.args.self.now) c.args.address _ (ap found_of (sym c.in-Ok.is) ∙ c.requires.is c.args.self.now.values.now)

pub returns-in-Err : goal.returns-in-Err
returns-in-Err c =
    read-absent (cells_of c.args.self.now) c.args.address _ (ap found_of (sym c.in-Err.is) ∙ c.requires.is c.args.self.now.values.now)
