pub mod Answers
pub mod Parts
pub mod Numbers
pub mod Calls
pub mod Blocks
pub mod Sizes
