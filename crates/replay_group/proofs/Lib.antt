-- The laws of replay, and the proof of demand 3.
pub mod WroteLaws
pub mod TurnLaws
pub mod PassLaws
pub mod SweepLaws
pub mod WriteLaws
