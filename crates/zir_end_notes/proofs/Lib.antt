pub mod Commas
pub mod Frames
pub mod Growing
