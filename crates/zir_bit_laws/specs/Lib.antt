pub mod Process
pub mod Feed
pub mod Prefixes
pub mod Budgets
pub mod Costs
pub mod Offers
