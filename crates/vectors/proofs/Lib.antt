pub mod Codes
pub mod Lots
pub mod Plain
pub mod Turns
pub mod Said
