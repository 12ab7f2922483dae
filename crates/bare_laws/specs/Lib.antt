pub mod Empty
pub mod Ones
