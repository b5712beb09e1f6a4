pub mod Events
pub mod Traces
pub mod Output
pub mod Stepping
pub mod Closing
pub mod Watching
