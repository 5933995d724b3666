-- What the contracts cite.
pub mod AnswerView
pub mod PerformView
