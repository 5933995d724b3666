-- The laws that the proofs cite.
pub mod LimitsLaws
pub mod PerformLaws
pub mod SettleLaws
