pub mod Numbers
pub mod Elements
pub mod Putting
pub mod Spelling
pub mod Writing
pub mod Signs
pub mod Items
pub mod Gathering
