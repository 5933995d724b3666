-- What the contracts cite.
pub mod Choice
