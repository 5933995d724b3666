-- What the contracts cite.
pub mod Calls
pub mod Registers
pub mod Report
