pub mod Runs
pub mod Driving
