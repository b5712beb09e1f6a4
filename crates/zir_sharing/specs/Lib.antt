-- The rules of sharing as the code follows them.
pub mod Members
pub mod Places
pub mod Answers
pub mod Marks
pub mod Ascending
pub mod Blocks
