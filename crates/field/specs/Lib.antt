-- What the contracts cite.
pub mod Base
pub mod Extension
