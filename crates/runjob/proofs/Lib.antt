-- The laws that the proofs cite, and what the contracts say together.
pub mod PieceLaws
pub mod StartLaws
pub mod Printing
pub mod Writing
