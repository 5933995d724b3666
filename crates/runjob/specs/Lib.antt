-- What the contracts cite.
pub mod SpaceView
pub mod Refusals
pub mod Pieces
pub mod PieceView
pub mod StartView
