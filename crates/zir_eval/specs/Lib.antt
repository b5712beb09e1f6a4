pub mod Cells
pub mod Ends
pub mod Opening
pub mod Initials
pub mod Laws
