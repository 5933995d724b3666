-- The laws that the proofs cite.
pub mod Bits
pub mod Checked
