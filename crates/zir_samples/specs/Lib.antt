pub mod Finding
pub mod Output
pub mod Writing
pub mod Reading
