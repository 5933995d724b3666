-- The laws that the proofs cite.
pub mod Effects
pub mod MemoryView
pub mod Window
