pub mod Shapes
pub mod Offsets
pub mod Laws
pub mod Rows
