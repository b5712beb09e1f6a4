pub mod Lists
pub mod TypeLaw
pub mod ExprLaw
pub mod StmtLaw
pub mod CompLaw
pub mod ProgLaw
