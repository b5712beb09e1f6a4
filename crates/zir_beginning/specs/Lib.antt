pub mod Uses
pub mod Order
pub mod Laws
pub mod Code
