-- What the contracts cite, and what demand 3 claims.
pub mod ReplayView
pub mod RefusalView
pub mod Quiet
