-- The laws that the proofs cite.
pub mod RamView
pub mod Order
