pub mod Forms
pub mod Scopes
pub mod Sequences
pub mod Steps
