pub mod Wide
pub mod Traces
pub mod Bits
pub mod Answers
