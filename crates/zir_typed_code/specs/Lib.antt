pub mod Forming
pub mod Scopes
pub mod Laws
pub mod Programs
pub mod Walked
