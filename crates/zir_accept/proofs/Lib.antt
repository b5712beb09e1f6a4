pub mod Told
pub mod Verdicts
pub mod FirstNames
pub mod Kept
