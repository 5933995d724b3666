-- The laws of replay, and the proof of demand 3.
pub mod Under
pub mod Verdicts
pub mod Steps
pub mod Chains
pub mod Calls
pub mod Alter
pub mod Bytes
pub mod FieldBytes
pub mod Demand3
pub mod Job
pub mod Triton
pub mod Witness
pub mod LastWrite
pub mod Strip
pub mod Refused
