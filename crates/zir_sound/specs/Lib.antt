pub mod Statements
pub mod Components
pub mod Cores
pub mod Laws
