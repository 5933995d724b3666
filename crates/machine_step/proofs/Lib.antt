-- The laws that the proofs cite.
pub mod AdvanceLaws
pub mod RecordsLaws
