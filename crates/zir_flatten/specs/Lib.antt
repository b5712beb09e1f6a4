pub mod Making
pub mod Callable
pub mod Counted
pub mod Members
pub mod Programs
