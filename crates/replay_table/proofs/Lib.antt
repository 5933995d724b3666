-- The laws of replay, and the proof of demand 3.
pub mod GroupLaws
pub mod CellsLaws
pub mod StoresLaws
pub mod MergeLaws
pub mod CountLaws
pub mod TableLaws
pub mod KeptLaws
