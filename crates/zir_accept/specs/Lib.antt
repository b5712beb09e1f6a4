pub mod Variables
pub mod Accepting
pub mod Finding
pub mod Soundness
