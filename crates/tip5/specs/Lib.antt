-- What the contracts cite.
pub mod Tab
pub mod Words
pub mod SplitAndLookup
pub mod Sbox
pub mod Matrix
pub mod Split
pub mod Round
pub mod Permutation
pub mod Sponge
pub mod Hash
