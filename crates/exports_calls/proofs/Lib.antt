-- The laws that the proofs cite.
pub mod GivenCallLaws
pub mod OpenCallLaws
pub mod RefusedCalls
pub mod WholeCalls
pub mod ReplayCallLaws
pub mod RunCallLaws
pub mod StepCallLaws
pub mod ThinCallLaws
