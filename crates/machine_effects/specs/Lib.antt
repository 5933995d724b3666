-- What the contracts cite.
pub mod EffectView
pub mod MemoryView
