-- What the contracts cite.
pub mod RanView
pub mod StepsView
