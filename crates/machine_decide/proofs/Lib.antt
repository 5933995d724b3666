-- The laws that the proofs cite.
pub mod DecideLaws
pub mod PlaceBLaws
