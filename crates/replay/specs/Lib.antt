-- What the contracts cite, and what demand 3 claims.
pub mod Replay
pub mod LastWrite
pub mod Job
pub mod Demand3
