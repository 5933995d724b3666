-- What the contracts cite.
pub mod GivenCall
pub mod OpenCall
pub mod ReplayCall
pub mod RunCall
pub mod StepCall
pub mod ThinCall
