pub mod Laws
pub mod Ending
pub mod Copying
pub mod Sizes
pub mod Single
pub mod Beginning
pub mod Starting
