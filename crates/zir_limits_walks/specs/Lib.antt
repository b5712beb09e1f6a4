-- The limits of a program, as the code finds them.
pub mod Answers
pub mod Bodies
pub mod Components
pub mod Depths
