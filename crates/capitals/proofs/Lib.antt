pub mod Back
pub mod Examples
pub mod Turns
