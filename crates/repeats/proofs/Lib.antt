pub mod Bits
pub mod Elements
pub mod Lists
pub mod Notes
