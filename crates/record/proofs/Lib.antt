pub mod Accepted
pub mod Said
