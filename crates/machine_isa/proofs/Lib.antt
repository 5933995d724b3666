-- The laws that the proofs cite.
pub mod Copies
pub mod TableLaws
