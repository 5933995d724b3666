-- What the contracts cite.
pub mod DecideView
pub mod PlaceBView
