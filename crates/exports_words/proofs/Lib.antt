-- The laws that the proofs cite.
pub mod CallsLaws
pub mod RegistersLaws
pub mod ReportLaws
