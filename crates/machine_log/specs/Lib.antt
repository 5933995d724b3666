-- What the contracts cite.
pub mod Logged
pub mod Kinds
pub mod Beside
