-- What the contracts cite.
pub mod FeeView
