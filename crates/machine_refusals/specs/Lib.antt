-- What the contracts cite.
pub mod RefusalView
