pub mod Filters
pub mod Plain
pub mod Text
pub mod Turns
