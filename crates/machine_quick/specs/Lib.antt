-- What the contracts cite.
pub mod QuickView
