pub mod Facts
pub mod Lists
pub mod Notes
pub mod Places
