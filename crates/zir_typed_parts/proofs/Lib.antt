pub mod Grounds
pub mod Found
pub mod Fitting
pub mod Parameters
pub mod Instances
pub mod Scopes
pub mod Cores
