-- What the contracts cite, and what demand 3 claims.
pub mod GroupView
pub mod WriteView
pub mod Decided
