-- The rules of names and of sharing.
pub mod Walk
pub mod Scope
pub mod Buckets
pub mod Expressions
pub mod Statements
pub mod Components
pub mod Programs
pub mod Rows
pub mod Numbers
pub mod Touched
pub mod Sharing
pub mod SharingRows
