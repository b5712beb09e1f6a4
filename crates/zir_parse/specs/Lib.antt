pub mod Heads
pub mod Loops
pub mod Main
pub mod Members
