pub mod Fits
pub mod Order
pub mod Said
