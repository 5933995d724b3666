-- What the contracts cite, and what demand 3 claims.
pub mod Merge
pub mod Group
pub mod Table
pub mod TableView
pub mod LentView
