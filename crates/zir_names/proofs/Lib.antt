pub mod Told
pub mod Lists
pub mod ExpressionEquations
pub mod StatementEquations
pub mod ComponentEquations
pub mod Declarations
pub mod Chains
pub mod Fields
