pub mod Sets
pub mod Held
pub mod Touching
pub mod Ascents
pub mod Conflicts
pub mod Tables
