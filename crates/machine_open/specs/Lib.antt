-- What the contracts cite.
pub mod GivenView
pub mod OpenView
