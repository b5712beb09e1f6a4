pub mod History
pub mod Elements
pub mod Says
pub mod Rows
