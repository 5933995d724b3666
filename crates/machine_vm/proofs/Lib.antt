-- The laws that the proofs cite.
pub mod RunLaws
pub mod StepLaws
