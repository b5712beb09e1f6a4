pub mod Going
pub mod Wrapping
