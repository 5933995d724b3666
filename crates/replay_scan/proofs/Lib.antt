-- The laws of replay, and the proof of demand 3.
pub mod Numbers
pub mod Heads
pub mod Rows
pub mod Walks
pub mod ScanLaws
pub mod Scans
pub mod WalkLaws
