pub mod Fine
pub mod Agreement
pub mod Operands
pub mod Sound
pub mod Places
pub mod Told
pub mod Equations
pub mod Numbered
