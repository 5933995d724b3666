-- The laws that the proofs cite.
pub mod FrameLaws
pub mod KindLaws
pub mod ListingLaws
pub mod JobFileLaws
pub mod LogLinesLaws
pub mod JobFiles
pub mod Example
