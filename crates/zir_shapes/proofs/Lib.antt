pub mod Overlaying
pub mod PartCells
pub mod Fitting
pub mod Slicing
pub mod ComplexNumbers
pub mod Growing
pub mod StructFields
pub mod Blank
