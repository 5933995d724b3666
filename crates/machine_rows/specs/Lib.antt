-- What the contracts cite.
pub mod RowView
