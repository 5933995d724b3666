-- The laws of Tip5 that belong to no one part of it; those of a part are in its folder, as permutation/Laws.
pub mod Tab
pub mod Published
pub mod FromFn
