pub mod Classes
pub mod Tables
pub mod Spelling
pub mod Places
pub mod Tokens
pub mod Fronts
pub mod Laws
