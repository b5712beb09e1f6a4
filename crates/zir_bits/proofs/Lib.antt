mod Lists
mod Evaluations
mod Compositions
mod Assigned
mod Components
mod Soundness
mod Samples
mod Answers
