pub mod Giving
pub mod Handing
pub mod Traces
pub mod Turning
pub mod Closing
