pub mod Columns
pub mod Conditions
pub mod Lines
