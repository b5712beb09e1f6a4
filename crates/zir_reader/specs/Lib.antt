pub mod Inputs
pub mod Memory
pub mod Numbers
pub mod Gathering
pub mod Reading
pub mod Laws
