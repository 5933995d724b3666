-- What the contracts cite.
pub mod RunView
pub mod StepView
