-- What the contracts cite.
pub mod U32
