-- What the contracts cite.
pub mod HashedView
