-- What the contracts cite.
pub mod AdvanceView
pub mod RecordsView
