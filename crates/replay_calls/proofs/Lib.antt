-- The laws of replay, and the proof of demand 3.
pub mod PlaceALaws
pub mod Joined
pub mod Decisions
pub mod Deciding
pub mod QuietLaws
