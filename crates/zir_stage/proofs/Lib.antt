pub mod Composing
pub mod Forking
pub mod Turning
