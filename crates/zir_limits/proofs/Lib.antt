pub mod ExpressionEquations
pub mod Noted
pub mod Order
pub mod Placed
pub mod Rows
pub mod StatementEquations
