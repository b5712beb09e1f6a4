pub mod Sets
pub mod Assigned
