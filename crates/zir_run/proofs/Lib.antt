pub mod Runs
pub mod Keep
pub mod Verdicts
