-- What the contracts cite.
pub mod InstructionView
pub mod FewWords
