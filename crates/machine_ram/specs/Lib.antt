-- What the contracts cite.
pub mod RamView
pub mod LentCells
