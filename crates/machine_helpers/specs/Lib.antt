-- What the contracts cite.
pub mod HelpersView
pub mod WordsProp
