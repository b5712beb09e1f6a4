pub mod Told
pub mod Lists
pub mod ExpressionEquations
pub mod ComponentEquations
pub mod Narrowed
