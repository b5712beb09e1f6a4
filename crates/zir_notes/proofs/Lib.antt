pub mod Puts
pub mod Types
