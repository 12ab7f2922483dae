mod Earlier
mod Parts
pub mod Turns
pub mod Said
