pub mod Enclosures
pub mod Grammar
pub mod Claim
pub mod Wants
pub mod Parts
pub mod Machine
pub mod Reading
