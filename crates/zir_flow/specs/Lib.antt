pub mod Threads
pub mod Stages
pub mod Kinds
pub mod Flowing
pub mod Fitting
pub mod Playing
pub mod Program
pub mod Laws
