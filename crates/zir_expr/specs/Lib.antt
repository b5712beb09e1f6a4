pub mod Answers
pub mod Memory
pub mod Scalars
pub mod Running
