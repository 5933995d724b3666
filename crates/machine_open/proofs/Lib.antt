-- The laws that the proofs cite.
pub mod GivenLaws
pub mod OpenLaws
