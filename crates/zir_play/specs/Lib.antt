pub mod Performing
pub mod Laws
pub mod Runs
pub mod Turning
