pub mod Endings
pub mod Parts
pub mod Pieces
