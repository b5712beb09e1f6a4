pub mod Popped
pub mod Sources
pub mod Pausing
pub mod Standing
pub mod Coming
pub mod Layouts
pub mod Opened
