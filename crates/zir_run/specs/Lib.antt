pub mod Claim
pub mod Loading
pub mod Keeping
pub mod Reports
