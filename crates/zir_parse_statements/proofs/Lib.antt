pub mod Steps
pub mod ExprParts
pub mod StmtParts
